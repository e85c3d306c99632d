-- Of attributes whose names' keys are sorted, those that are the first of their names are marked.
use Rattle.std.proofs.Common.{◌≡◌, ℕ, zero, suc, ◌+◌, ◌-◌, ◌<◌, ◌≤◌, Bool, true, false, true≢false, not, below_more, List, [], length, get_or, set, replicate, refl, sym, ap, subst, ◌∙◌, arith, inl, inr}
use Rattle.std.proofs.lemmas.Bool.{cases_eq}
use Rattle.std.proofs.lemmas.List.{get_or_default, get_or-set_same, get_or-set_other, length-set, length-replicate}
use Rattle.ipp_coding.specs.declared.message.Attribute.{Attribute}
use Rattle.account_asks.specs.ProofNames.{AreFirsts}
use Rattle.account_asks.proofs.Keys.{is_same}
use Rattle.account_asks.proofs.Sorts.{Entry, Sorted, has_come, behind_same, same_place}

never_true : (b : Bool) → (b ≡ true → ⊥) → b ≡ false
never_true true never = absurd (never refl)
never_true false never = refl

pub turned : (b c : Bool) → b ≡ not c → c ≡ not b
turned b true is = ap not (sym is)
turned b false is = ap not (sym is)

none_in : (n q : ℕ) → get_or (replicate n false) q false ≡ false
none_in zero q = refl
none_in (suc n) zero = refl
none_in (suc n) (suc q) = none_in n q

-- what is marked is the first of its name, and each first is marked whose key was passed
pub record Marked (firsts : List Bool) (keys : List Entry) (xs : List Attribute) (turn : ℕ) : Type 0 where
  pub all : length firsts ≡ length xs
  pub right : (q : ℕ) (x : Attribute) → get_or firsts q false ≡ true → has_come xs q x ≡ false
  pub done : (k : ℕ) → k < turn → (e : Entry) (x : Attribute) → has_come xs (get_or keys k e).1 x ≡ false → get_or firsts (get_or keys k e).1 false ≡ true

pub none_marked : (firsts : List Bool) (keys : List Entry) (xs : List Attribute) → firsts ≡ replicate (length xs) false → Marked firsts keys xs 0
none_marked firsts keys xs are = record {
  all = ap length are ∙ length-replicate (length xs) false;
  right = λ q x marked. absurd (true≢false (sym marked ∙ ap (λ (l : List Bool). get_or l q false) are ∙ none_in (length xs) q));
  done = λ k below e x new. absurd (omega (arith, below));
}

same_stays : (firsts : List Bool) (place q : ℕ) → place < length firsts → get_or firsts q false ≡ true → get_or (set firsts place true) q false ≡ true
same_stays firsts place q within marked =
    elim (cases_eq q place) [
      | inl here ↦ ap (λ (p : ℕ). get_or (set firsts place true) p false) here ∙ get_or-set_same firsts place true false within
      | inr other ↦ get_or-set_other firsts place q true false other ∙ marked
    ]

-- a key that differs from that before it is of a first
pub first_marked : (keys : List Entry) (xs : List Attribute) (s : Sorted keys xs) (firsts : List Bool) (turn : ℕ) (b : Entry) → turn < length keys → b ≡ get_or keys turn b →
    (0 < turn → is_same b.0 (get_or keys (turn - 1) b).0 ≡ false) → Marked firsts keys xs turn → Marked (set firsts b.1 true) keys xs (turn + 1)
first_marked keys xs s firsts turn b below at other marked =
    let within : b.1 < length firsts = subst (λ (n : ℕ). b.1 < n) (sym marked.all) (subst (λ (e : Entry). e.1 < length xs) (sym at) (s.each turn b below).0) in
    let new : (x : Attribute) → has_come xs b.1 x ≡ false = λ x. never_true (has_come xs b.1 x) (λ come.
    let again = behind_same keys xs s turn b x below (ap (λ (e : Entry). has_come xs e.1 x) (sym at) ∙ come) in
    true≢false (sym again.1 ∙ ap (λ (e : Entry). is_same e.0 (get_or keys (turn - 1) b).0) (sym at) ∙ other again.0)) in
    record {
      all = length-set firsts b.1 true ∙ marked.all;
      right = λ q x is. elim (cases_eq q b.1) [
        | inl here ↦ ap (λ (p : ℕ). has_come xs p x) here ∙ new x
        | inr far ↦ marked.right q x (sym (get_or-set_other firsts b.1 q true false far) ∙ is)
      ];
      done = below_more (λ k. (e : Entry) (x : Attribute) → has_come xs (get_or keys k e).1 x ≡ false → get_or (set firsts b.1 true) (get_or keys k e).1 false ≡ true) turn
          (λ k less e x is. same_stays firsts b.1 _ within (marked.done k less e x is))
          (λ e x is. ap (λ (f : Entry). get_or (set firsts b.1 true) f.1 false) (get_or_default keys turn e b below ∙ sym at) ∙ get_or-set_same firsts b.1 true false within);
    }

-- a key that is the same as that before it is of no first, or of one that was marked
pub same_passed : (keys : List Entry) (xs : List Attribute) (s : Sorted keys xs) (firsts : List Bool) (turn : ℕ) (b : Entry) → turn < length keys → b ≡ get_or keys turn b → 0 < turn →
    is_same b.0 (get_or keys (turn - 1) b).0 ≡ true → Marked firsts keys xs turn → Marked firsts keys xs (turn + 1)
same_passed keys xs s firsts turn b below at after same marked = record {
  all = marked.all;
  right = marked.right;
  done = below_more (λ k. (e : Entry) (x : Attribute) → has_come xs (get_or keys k e).1 x ≡ false → get_or firsts (get_or keys k e).1 false ≡ true) turn marked.done
      (λ e x new.
      let again : is_same (get_or keys turn e).0 (get_or keys (turn - 1) e).0 ≡ true =
      rw (get_or_default keys turn e b below, ← at, get_or_default keys (turn - 1) e b (omega (arith, below))) same in
      let place = same_place keys xs s turn e x after below again new in
      ap (λ (q : ℕ). get_or firsts q false) (sym place) ∙ marked.done (turn - 1) (omega arith) e x (ap (λ (q : ℕ). has_come xs q x) place ∙ new));
}

-- whether a key is the same as that before it, where it was asked whether they differ
pub same_unless : (keys : List Entry) (turn : ℕ) (b m : Entry) (differ : Bool) → turn < length keys → m ≡ get_or keys (turn - 1) m → differ ≡ not (is_same b.0 m.0) → is_same b.0 (get_or keys (turn - 1) b).0 ≡ not differ
same_unless keys turn b m differ below at is = ap (λ (e : Entry). is_same b.0 e.0) (sym (at ∙ get_or_default keys (turn - 1) m b (omega (arith, below)))) ∙ turned differ _ is

nothing : Entry
nothing = (record { first = 0; length = 0; rest = record { ref_ptr = (0, 0); now = [] } }, 0)

pub all_marked : (keys : List Entry) (xs : List Attribute) (s : Sorted keys xs) (firsts : List Bool) (turn : ℕ) → length keys ≤ turn → Marked firsts keys xs turn → AreFirsts firsts xs
all_marked keys xs s firsts turn end marked q x within =
    (elim (has_come xs q x) as (λ b. has_come xs q x ≡ b → get_or firsts q false ≡ not b) [
      | true ↦ λ come. never_true (get_or firsts q false) (λ is. true≢false (sym come ∙ marked.right q x is))
      | false ↦ λ new.
          let at = s.found q nothing within in
          ap (λ (p : ℕ). get_or firsts p false) (sym at.2) ∙ marked.done at.0 (omega (arith, at.1)) nothing x (ap (λ (p : ℕ). has_come xs p x) at.2 ∙ new)
    ]) refl
