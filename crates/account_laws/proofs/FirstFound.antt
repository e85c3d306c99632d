-- The first check of a request that refuses, and checks that all pass.
use Rattle.std.proofs.Common.{subst, ◌≡◌, ◌⊎◌, inl, inr, Bool, true, false, ◌&&◌, cond, if◌then◌else◌, List, [], ◌∷◌, ◌++◌, Option, Some, None, Ok, Err, refl}
use Rattle.std.specs.List.{AllByRecursion}
use Rattle.std.proofs.lemmas.Option.{none-some, same_Some}
use Rattle.account_asks.specs.Refusals.{Check, PlainRefusal, first_refusal, refusal_of, unless_refused}

-- the first that refuses gives the refusal, and each before it passes
abbrev pub Found : (refused : PlainRefusal) → List Check → Type 0
Found refused [] = ⊥
Found refused (check ∷ later) = ((check.refused ≡ true) × (refusal_of check ≡ refused)) ⊎ ((check.refused ≡ false) × Found refused later)

pub found : (checks : List Check) (refused : PlainRefusal) → first_refusal checks ≡ Some refused → Found refused checks
found [] refused is = absurd (none-some refused is)
found (check ∷ later) refused is = by check.refused refl (found later refused) is
  where
    by : (b : Bool) → check.refused ≡ b → (first_refusal later ≡ Some refused → Found refused later) → cond b (Some (refusal_of check)) (first_refusal later) ≡ Some refused → Found refused (check ∷ later)
    by true here rest is = inl (here, same_Some (refusal_of check) refused is)
    by false here rest is = inr (here, rest is)

-- what holds of the refusal of each that refuses holds of the one that is found
pub found_holds : (Holds : PlainRefusal → Type 0) (checks : List Check) (refused : PlainRefusal) → AllByRecursion (λ (check : Check). check.refused ≡ true → Holds (refusal_of check)) checks → Found refused checks → Holds refused
found_holds Holds [] refused hold never = absurd never
found_holds Holds (check ∷ later) refused hold (inl here) = subst Holds here.1 (hold.0 here.0)
found_holds Holds (check ∷ later) refused hold (inr there) = found_holds Holds later refused hold.1 there.1

-- what is refused is refused by the first check
pub refused_first : {A : Type 0} (first : Option PlainRefusal) (x : A) (refused : PlainRefusal) → unless_refused first x ≡ Err refused → first ≡ Some refused
refused_first None x refused is = absurd (let never : ⊥ = cc in never)
refused_first (Some first) x refused is = cc

-- ---- checks that all pass

-- a check that refuses would be the first to
none_here : (refused : Bool) (here : PlainRefusal) (later : Option PlainRefusal) → (if refused then Some here else later) ≡ None → (refused ≡ false) × (later ≡ None)
none_here true here later none = absurd (let no : ⊥ = cc in no)
none_here false here later none = (refl, none)

-- where none refuses, each passes
pub each_passes : (checks : List Check) → first_refusal checks ≡ None → AllByRecursion (λ check. check.refused ≡ false) checks
each_passes [] none = tt
each_passes (check ∷ checks) none =
    let parts = none_here check.refused (refusal_of check) (first_refusal checks) none in
    (parts.0, each_passes checks parts.1)

-- those after some others do too
pub later_pass : (earlier later : List Check) → first_refusal (earlier ++ later) ≡ None → first_refusal later ≡ None
later_pass [] later none = none
later_pass (check ∷ earlier) later none =
    later_pass earlier later (none_here check.refused (refusal_of check) (first_refusal (earlier ++ later)) none).1

-- what passes is handed on as it is
pub passed : {A : Type 0} (first : Option PlainRefusal) (x z : A) → unless_refused first x ≡ Ok z → (first ≡ None) × (x ≡ z)
passed None x z is = (refl, cc)
passed (Some refusal) x z is = absurd (let no : ⊥ = cc in no)

pub second_false : (a b : Bool) → (a && b) ≡ false → a ≡ true → b ≡ false
second_false true b is this = is
second_false false b is this = absurd (let no : ⊥ = cc in no)
