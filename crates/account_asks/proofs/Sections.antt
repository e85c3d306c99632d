-- Checks in sections, one after the other.
use Rattle.std.proofs.Common.{◌≡◌, Bool, true, false, if◌then◌else◌, List, [], ◌∷◌, ◌++◌, Option, Some, None, Result, Ok, Err, refl}
use Rattle.account_asks.specs.Refusals.{PlainRefusal, Check, refusal_of, first_refusal, unless_refused, checked}

fails_still : {A B : Type 0} (refused : Bool) (here : PlainRefusal) (later more : Option PlainRefusal) (x : A) (y : B) (r : PlainRefusal) →
    unless_refused (if refused then Some here else later) x ≡ Err r →
    (unless_refused later x ≡ Err r → unless_refused more y ≡ Err r) →
    unless_refused (if refused then Some here else more) y ≡ Err r
fails_still true here later more x y r failed rest = cc
fails_still false here later more x y r failed rest = rest failed

-- what fails the first section fails with the same refusal
pub failed_first : {A B : Type 0} (xs ys : List Check) (x : A) (y : B) (r : PlainRefusal) → checked xs x ≡ Err r → checked (xs ++ ys) y ≡ Err r
failed_first [] ys x y r failed = absurd (let never : ⊥ = cc in never)
failed_first (check ∷ checks) ys x y r failed =
    fails_still check.refused (refusal_of check) (first_refusal checks) (first_refusal (checks ++ ys)) x y r failed (failed_first checks ys x y r)

passes_still : {A B : Type 0} (refused : Bool) (here : PlainRefusal) (later more : Option PlainRefusal) (rest : Result B PlainRefusal) (x z : A) (y : B) →
    unless_refused (if refused then Some here else later) x ≡ Ok z →
    (unless_refused later x ≡ Ok z → unless_refused more y ≡ rest) →
    unless_refused (if refused then Some here else more) y ≡ rest
passes_still true here later more rest x z y passed next = absurd (let never : ⊥ = cc in never)
passes_still false here later more rest x z y passed next = next passed

-- what passes it is decided by the rest
pub passed_first : {A B : Type 0} (xs ys : List Check) (x z : A) (y : B) → checked xs x ≡ Ok z → checked (xs ++ ys) y ≡ checked ys y
passed_first [] ys x z y passed = refl
passed_first (check ∷ checks) ys x z y passed =
    passes_still check.refused (refusal_of check) (first_refusal checks) (first_refusal (checks ++ ys)) (checked ys y) x z y passed (passed_first checks ys x z y)

passing_value : {A : Type 0} (first : Option PlainRefusal) (x z : A) → unless_refused first x ≡ Ok z → x ≡ z
passing_value None x z passed = cc
passing_value (Some r) x z passed = absurd (let never : ⊥ = cc in never)

-- what passes is handed on as it is
pub passed_value : {A : Type 0} (xs : List Check) (x z : A) → checked xs x ≡ Ok z → x ≡ z
passed_value xs x z passed = passing_value (first_refusal xs) x z passed

passes_alone : {A B : Type 0} (first : Option PlainRefusal) (x z : A) (y : B) → unless_refused first x ≡ Ok z → unless_refused first y ≡ Ok y
passes_alone None x z y passed = refl
passes_alone (Some r) x z y passed = absurd (let never : ⊥ = cc in never)

-- whatever is handed on
pub passed_alone : {A B : Type 0} (xs : List Check) (x z : A) (y : B) → checked xs x ≡ Ok z → checked xs y ≡ Ok y
passed_alone xs x z y passed = passes_alone (first_refusal xs) x z y passed

fails_alone : {A B : Type 0} (first : Option PlainRefusal) (x : A) (y : B) (r : PlainRefusal) → unless_refused first x ≡ Err r → unless_refused first y ≡ Err r
fails_alone None x y r failed = absurd (let never : ⊥ = cc in never)
fails_alone (Some refusal) x y r failed = cc

pub fails_with : {A B : Type 0} (xs : List Check) (x : A) (y : B) (r : PlainRefusal) → checked xs x ≡ Err r → checked xs y ≡ Err r
fails_with xs x y r failed = fails_alone (first_refusal xs) x y r failed
