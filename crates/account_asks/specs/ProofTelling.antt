-- For the proof of the code alone: what a call tells that makes checks of a request.
use Rattle.std.specs.Prelude.{◌≡◌, Result, List, [], ◌∷◌}
use Rattle.std.specs.Result.{result_map_both}
use Rattle.ipp_coding.specs.Plain.{PlainAttribute}
use Rattle.account_rules.specs.declared.refusal.Refusal.{Refusal}
use Rattle.account_asks.specs.Refusals.{PlainRefusal, Check, checked}

-- a refusal with which nothing goes
abbrev pub bare : Refusal → PlainRefusal
bare refusal = record { refusal = refusal; unsupported = [] }

-- what a call gives, as it is seen, or its refusal
abbrev pub told : {A B : Type 0} → (A → B) → Result A Refusal → Result B PlainRefusal
told view result = result_map_both view bare result

-- the same, where attributes go with it
abbrev pub told_with : {A : Type 0} → List PlainAttribute → Result A Refusal → Result A PlainRefusal
told_with unsupported result =
    result_map_both
    (λ x. x)
    (λ refusal. record { refusal = refusal; unsupported = unsupported })
    result

-- a call makes one check, and hands on what it looked at, as it is seen
abbrev pub ChecksAndGives :
    {A B : Type 0} → (result : Result A Refusal) (view : A → B) (check : Check) (handed : B) →
    Type 0
ChecksAndGives result view check handed = told view result ≡ checked (check ∷ []) handed

-- a call makes one check, and hands on nothing
abbrev pub Checks : (result : Result (Unit {0}) Refusal) (check : Check) → Type 0
Checks result check = ChecksAndGives result (λ x. x) check tt

-- a call makes one check, and attributes go with a refusal
abbrev pub ChecksWithAttributes :
    (unsupported : List PlainAttribute) (result : Result (Unit {0}) Refusal) (check : Check) →
    Type 0
ChecksWithAttributes unsupported result check =
    told_with unsupported result ≡ checked (check ∷ []) tt
