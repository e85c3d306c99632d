-- Lemmas on escaped text, of each byte and then of each text: it is no markup, and is read back.
use Rattle.std.proofs.Common.{◌≡◌, ℕ, true, false, eqb, List, [], ◌∷◌, ◌++◌, flat_map, refl, inl, inr, subst, sym, arith, false-eqb}
use Rattle.std.proofs.lemmas.Bool.{cases_Bool, eqb-true}
use Rattle.std.specs.List.{AllByRecursion}
use Rattle.std.specs.Str.Lossy.{utf8_lossy}
use Rattle.page_markup.specs.Escaping.{escaped, escaped_byte, is_control, readable_byte, replacement, shown_byte}
use Rattle.page_markup.specs.Laws.{IsMarkup, Reads, ends, amp, lt, gt, quot, apos, plain}

abbrev Clean : ℕ → Type 0
Clean byte = IsMarkup byte → ⊥

clean_append : (xs ys : List ℕ) → AllByRecursion Clean xs → AllByRecursion Clean ys → AllByRecursion Clean (xs ++ ys)
clean_append [] ys first more = more
clean_append (x ∷ xs) ys first more = (first.0, clean_append xs ys first.1 more)

not_markup : (byte : ℕ) → eqb byte 60 ≡ false → eqb byte 62 ≡ false → eqb byte 34 ≡ false → eqb byte 39 ≡ false → IsMarkup byte → ⊥
not_markup byte no_lt no_gt no_quot no_apos is = grind arith

abbrev sure : (byte : ℕ) → eqb byte 60 ≡ false → eqb byte 62 ≡ false → eqb byte 34 ≡ false → eqb byte 39 ≡ false → Clean byte
sure = not_markup

clean_escaped : (byte : ℕ) → AllByRecursion Clean (escaped_byte byte)
clean_escaped byte =
    let as_if = λ (b : ℕ) (is : eqb byte b ≡ true) (at_b : AllByRecursion Clean (escaped_byte b)).
    subst (λ (x : ℕ). AllByRecursion Clean (escaped_byte x)) (sym (eqb-true byte b is)) at_b in
    elim (cases_Bool (eqb byte 38)) [
      | inl is ↦ as_if 38 is (sure 38 refl refl refl refl, (sure 97 refl refl refl refl, (sure 109 refl refl refl refl, (sure 112 refl refl refl refl, (sure 59 refl refl refl refl, tt)))))
      | inr no_amp ↦
          elim (cases_Bool (eqb byte 60)) [
            | inl is ↦ as_if 60 is (sure 38 refl refl refl refl, (sure 108 refl refl refl refl, (sure 116 refl refl refl refl, (sure 59 refl refl refl refl, tt))))
            | inr no_lt ↦
                elim (cases_Bool (eqb byte 62)) [
                  | inl is ↦ as_if 62 is (sure 38 refl refl refl refl, (sure 103 refl refl refl refl, (sure 116 refl refl refl refl, (sure 59 refl refl refl refl, tt))))
                  | inr no_gt ↦
                      elim (cases_Bool (eqb byte 34)) [
                        | inl is ↦ as_if 34 is (sure 38 refl refl refl refl, (sure 113 refl refl refl refl, (sure 117 refl refl refl refl, (sure 111 refl refl refl refl, (sure 116 refl refl refl refl, (sure 59 refl refl refl refl, tt))))))
                        | inr no_quot ↦
                            elim (cases_Bool (eqb byte 39)) [
                              | inl is ↦ as_if 39 is (sure 38 refl refl refl refl, (sure 35 refl refl refl refl, (sure 51 refl refl refl refl, (sure 57 refl refl refl refl, (sure 59 refl refl refl refl, tt)))))
                              | inr no_apos ↦
                                  let other : escaped_byte byte ≡ byte ∷ [] = rw (no_amp, no_lt, no_gt, no_quot, no_apos) refl in
                                  subst (λ (x : List ℕ). AllByRecursion Clean x) (sym other) (not_markup byte no_lt no_gt no_quot no_apos, tt)
                            ]
                      ]
                ]
          ]
    ]

clean_byte : (byte : ℕ) → AllByRecursion Clean (shown_byte byte)
clean_byte byte =
    elim (cases_Bool (is_control byte)) [
      | inl is ↦ rw is (sure 239 refl refl refl refl, (sure 191 refl refl refl refl, (sure 189 refl refl refl refl, tt)))
      | inr fine ↦ rw fine (clean_escaped byte)
    ]

clean_bytes : (text : List ℕ) → AllByRecursion Clean (flat_map shown_byte text)
clean_bytes [] = tt
clean_bytes (byte ∷ text) = clean_append (shown_byte byte) (flat_map shown_byte text) (clean_byte byte) (clean_bytes text)

pub clean_text : (text : List ℕ) → AllByRecursion Clean (escaped text)
clean_text text = clean_bytes (utf8_lossy text)

read_byte : (byte : ℕ) (shown text : List ℕ) → Reads shown text → Reads (escaped_byte byte ++ shown) (byte ∷ text)
read_byte byte shown text read =
    let as_if = λ (b : ℕ) (is : eqb byte b ≡ true) (at_b : Reads (escaped_byte b ++ shown) (b ∷ text)).
    subst (λ (x : ℕ). Reads (escaped_byte x ++ shown) (x ∷ text)) (sym (eqb-true byte b is)) at_b in
    elim (cases_Bool (eqb byte 38)) [
      | inl is ↦ as_if 38 is (amp shown text read)
      | inr no_amp ↦
          elim (cases_Bool (eqb byte 60)) [
            | inl is ↦ as_if 60 is (lt shown text read)
            | inr no_lt ↦
                elim (cases_Bool (eqb byte 62)) [
                  | inl is ↦ as_if 62 is (gt shown text read)
                  | inr no_gt ↦
                      elim (cases_Bool (eqb byte 34)) [
                        | inl is ↦ as_if 34 is (quot shown text read)
                        | inr no_quot ↦
                            elim (cases_Bool (eqb byte 39)) [
                              | inl is ↦ as_if 39 is (apos shown text read)
                              | inr no_apos ↦
                                  let other : escaped_byte byte ≡ byte ∷ [] = rw (no_amp, no_lt, no_gt, no_quot, no_apos) refl in
                                  subst (λ (x : List ℕ). Reads (x ++ shown) (byte ∷ text)) (sym other) (plain byte shown text (false-eqb byte 38 (sym no_amp)) (not_markup byte no_lt no_gt no_quot no_apos) read)
                            ]
                      ]
                ]
          ]
    ]

-- a control is shown as three bytes, of which none is markup
read_replacement : (shown text : List ℕ) → Reads shown text → Reads (replacement ++ shown) (replacement ++ text)
read_replacement shown text read =
    plain 239 _ _ (grind arith) (grind arith) (plain 191 _ _ (grind arith) (grind arith) (plain 189 shown text (grind arith) (grind arith) read))

read_shown : (byte : ℕ) (shown text : List ℕ) → Reads shown text → Reads (shown_byte byte ++ shown) (readable_byte byte ++ text)
read_shown byte shown text read =
    elim (cases_Bool (is_control byte)) [
      | inl is ↦ rw is (read_replacement shown text read)
      | inr fine ↦ rw fine (read_byte byte shown text read)
    ]

read_bytes : (text : List ℕ) → Reads (flat_map shown_byte text) (flat_map readable_byte text)
read_bytes [] = ends
read_bytes (byte ∷ text) = read_shown byte (flat_map shown_byte text) (flat_map readable_byte text) (read_bytes text)

pub read_text : (text : List ℕ) → Reads (escaped text) (flat_map readable_byte (utf8_lossy text))
read_text text = read_bytes (utf8_lossy text)
