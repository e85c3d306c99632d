-- A byte completes a text of a kind only where the text passes the test that each of the kind passes, and is its
-- last one then.
use Rattle.std.proofs.Common.{◌≡◌, ℕ, ◌+◌, ◌≤◌, ◌⊎◌, inl, inr, Bool, true, false, List, [], ◌∷◌, ◌++◌, length, drop, get_or, refl, sym, ap, ◌∙◌, append_assoc, arith, length-append}
use Rattle.std.proofs.lemmas.Bool.{true≢false}
use Rattle.std.proofs.lemmas.List.{same_from_push, append-nil, nil_from_length}
use Rattle.listen_http.specs.ProofKinds.{HasNone}

-- a list is empty or has a last element
pub last_of : (xs : List ℕ) → (xs ≡ []) ⊎ ((init : List ℕ) × (x : ℕ) × (xs ≡ init ++ x ∷ []))
last_of [] = inl refl
last_of (y ∷ ys) = elim (last_of ys) [ inl none ↦ inr ([], y, ap (λ s. y ∷ s) none) | inr some ↦ inr (y ∷ some.0, some.1, ap (λ s. y ∷ s) some.2) ]

module _ {X : Type 0} (print : X → List ℕ) (IsX : X → Type 0) (test : List ℕ → Bool) (passes : (x : X) → test (print x) ≡ true) where
  -- a text and one byte, of which one of the kind leaves some: the text has it alone
  pub has_one : (text : List ℕ) (byte : ℕ) (x : X) (rest : List ℕ) → IsX x → text ++ byte ∷ [] ≡ print x ++ rest → (rest ≡ []) ⊎ ((shorter : List ℕ) × (text ≡ print x ++ shorter))
  has_one text byte x rest is e =
      elim (last_of rest) [
        | inl none ↦ inl none
        | inr some ↦ inr (some.0, (same_from_push text (print x ++ some.0) byte some.1 (e ∙ ap (λ s. print x ++ s) some.2 ∙ sym (append_assoc (print x) some.0 (some.1 ∷ [])))).0)
      ]

  pub none_in_nothing : test [] ≡ false → HasNone print IsX []
  none_in_nothing fails x rest p =
      let size : 0 ≡ length (print x) + length rest = ap length p.1 ∙ length-append (print x) rest in
      let none : print x ≡ [] = nil_from_length (print x) (omega arith) in
      true≢false (sym (passes x) ∙ ap test none ∙ fails)

  pub none_with_byte : (text : List ℕ) (byte : ℕ) → test (text ++ byte ∷ []) ≡ false → HasNone print IsX text → HasNone print IsX (text ++ byte ∷ [])
  none_with_byte text byte fails none x rest p =
      elim (has_one text byte x rest p.0 p.1) [
        | inl end ↦
            let all : text ++ byte ∷ [] ≡ print x = p.1 ∙ ap (λ s. print x ++ s) end ∙ append-nil (print x) in
            absurd (true≢false (sym (passes x) ∙ ap test (sym all) ∙ fails))
        | inr some ↦ none x some.0 (p.0, some.1)
      ]

  -- one that the last byte completed has all the bytes
  pub whole_with_byte : (text : List ℕ) (byte : ℕ) (x : X) (rest : List ℕ) → HasNone print IsX text → IsX x → text ++ byte ∷ [] ≡ print x ++ rest → text ++ byte ∷ [] ≡ print x
  whole_with_byte text byte x rest none is e =
      elim (has_one text byte x rest is e) [
        | inl end ↦ e ∙ ap (λ s. print x ++ s) end ∙ append-nil (print x)
        | inr some ↦ absurd (none x some.0 (is, some.1))
      ]

-- a text that begins a longer one and is no longer than another front of it begins that as well
pub begins_shorter : (text more front rest : List ℕ) → text ++ more ≡ front ++ rest → length front ≤ length text → text ≡ front ++ drop (length front) text
begins_shorter text more [] rest e fits = refl
begins_shorter [] more (y ∷ front) rest e fits = absurd (omega arith)
begins_shorter (x ∷ text) more (y ∷ front) rest e fits =
    let first : x ≡ y = ap (λ (s : List ℕ). get_or s 0 0) e in
    let others : text ++ more ≡ front ++ rest = ap (λ (s : List ℕ). drop 1 s) e in
    let begins : text ≡ front ++ drop (length front) text = begins_shorter text more front rest others (omega arith) in
    ap (λ n. n ∷ text) first ∙ ap (λ s. y ∷ s) begins
