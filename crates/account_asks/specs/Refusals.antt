-- Rule: Checks, of which the first that fails is the answer.
use Rattle.std.specs.Prelude.{ℕ, Result, Ok, Err, Bool, if◌then◌else◌, List, [], ◌∷◌, Option, Some, None}
use Rattle.ipp_coding.specs.Plain.{PlainAttribute}
use Rattle.account_rules.specs.declared.refusal.Refusal.{Refusal}
use Rattle.account_rules.specs.declared.refusal.Word.{Word}

-- a refusal, and the job template attributes that go with it
pub record PlainRefusal : Type 0 where
  pub refusal : Refusal
  pub unsupported : List PlainAttribute

pub record Check : Type 0 where
  pub refused : Bool
  pub status : ℕ
  pub word : Word
  pub unsupported : List PlainAttribute

-- once the job template attributes are known, those that are not supported go with a refusal
abbrev pub refused_with : (unsupported : List PlainAttribute) (refused : Bool) (status : ℕ)
    (word : Word) → Check
refused_with unsupported refused status word = record {
  refused = refused;
  status = status;
  word = word;
  unsupported = unsupported;
}

abbrev pub refused_where : (refused : Bool) (status : ℕ) (word : Word) → Check
refused_where refused status word = refused_with [] refused status word

abbrev pub refusal_of : Check → PlainRefusal
refusal_of check = record {
  refusal = record { status = check.status; word = check.word };
  unsupported = check.unsupported;
}

abbrev pub first_refusal : List Check → Option PlainRefusal
first_refusal [] = None
first_refusal (check ∷ later) =
    if check.refused then Some (refusal_of check) else first_refusal later

abbrev pub unless_refused : {A : Type 0} → Option PlainRefusal → A → Result A PlainRefusal
unless_refused None x = Ok x
unless_refused (Some refusal) x = Err refusal

-- what passes the checks, or the first refusal
abbrev pub checked : {A : Type 0} → List Check → A → Result A PlainRefusal
checked checks x = unless_refused (first_refusal checks) x
