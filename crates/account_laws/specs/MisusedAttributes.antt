-- The operation attributes that each operation reads, with the syntax that each has to have: which
-- of them a request has otherwise.
use Rattle.std.specs.Prelude.{◌≡◌, ℕ, ◌≤◌, Bool, codes, List, [], ◌∷◌}
use Rattle.std.specs.List.{AllByRecursion}
use Rattle.ipp_coding.specs.Plain.{PlainAttribute, PlainValue}
use Rattle.account_asks.specs.declared.operation.Operation.{Operation}
use Rattle.account_asks.specs.declared.operation.Operation.TheVariants.{SendDocument, GetJobs}
use Rattle.account_laws.specs.OperationIds.{MakesJob, TellsOfDocument, WantsAttributes}
use Rattle.account_laws.specs.SpelledAttributes.{HasNone, HasValues, IsBoolean, IsInteger, IsName}

-- ---- syntaxes (RFC 8010 section 3.9, RFC 8011 section 5.1)

-- one value, of which this holds
abbrev pub One : (Is : PlainValue → Type 0) → List PlainValue → Type 0
One Is values = (value : PlainValue) × (values ≡ value ∷ []) × Is value

abbrev pub IsSomeName : PlainValue → Type 0
IsSomeName value = (text : List ℕ) × IsName value text

abbrev pub IsSomeBoolean : PlainValue → Type 0
IsSomeBoolean value = (b : Bool) × IsBoolean value b

-- an integer from 0 on, and one from 1 on
abbrev pub IsCount : PlainValue → Type 0
IsCount value = (n : ℕ) × IsInteger value n

abbrev pub IsPositive : PlainValue → Type 0
IsPositive value = (n : ℕ) × IsInteger value n × (1 ≤ n)

-- octetString 0x30, keyword 0x44 and mimeMediaType 0x49 (RFC 8010 section 3.5.2)
abbrev pub IsOctets : PlainValue → Type 0
IsOctets value = value.tag ≡ 0x30

abbrev pub IsKeyword : PlainValue → Type 0
IsKeyword value = value.tag ≡ 0x44

abbrev pub IsMime : PlainValue → Type 0
IsMime value = value.tag ≡ 0x49

abbrev pub AreKeywords : List PlainValue → Type 0
AreKeywords values = AllByRecursion IsKeyword values

-- ---- attributes

-- it is there, with other values
pub record IsNot (AreThose : List PlainValue → Type 0) (name : List ℕ)
    (attributes : List PlainAttribute) : Type 0 where
  pub values : List PlainValue
  pub are_there : HasValues name attributes values
  pub are_others : AreThose values → ⊥

-- The operation reads an attribute that is not of its syntax (RFC 8011 sections 4.2.1.1, 4.2.5.1,
-- 4.2.6.1, 4.3.1.1, 4.3.4.1 and 5.3.17.2, and PWG 5100.11 for the passwords).
pub data Misuses (operation : Operation) (attributes : List PlainAttribute) : Type 0 where
  JobName : MakesJob operation → IsNot (One IsSomeName) (codes "job-name") attributes
      → Misuses operation attributes
  Fidelity : MakesJob operation
      → IsNot (One IsSomeBoolean) (codes "ipp-attribute-fidelity") attributes
      → Misuses operation attributes
  Impressions : MakesJob operation → IsNot (One IsCount) (codes "job-impressions") attributes
      → Misuses operation attributes
  Password : MakesJob operation → IsNot (One IsOctets) (codes "job-password") attributes
      → Misuses operation attributes
  PasswordEncryption : MakesJob operation
      → IsNot (One IsKeyword) (codes "job-password-encryption") attributes
      → Misuses operation attributes
  DocumentFormat : TellsOfDocument operation
      → IsNot (One IsMime) (codes "document-format") attributes
      → Misuses operation attributes
  Compression : TellsOfDocument operation
      → IsNot (One IsKeyword) (codes "compression") attributes
      → Misuses operation attributes
  LastDocument : operation ≡ SendDocument
      → IsNot (One IsSomeBoolean) (codes "last-document") attributes
      → Misuses operation attributes
  -- which has to be there
  NoLastDocument : operation ≡ SendDocument → HasNone (codes "last-document") attributes
      → Misuses operation attributes
  WhichJobs : operation ≡ GetJobs → IsNot (One IsKeyword) (codes "which-jobs") attributes
      → Misuses operation attributes
  Limit : operation ≡ GetJobs → IsNot (One IsPositive) (codes "limit") attributes
      → Misuses operation attributes
  MyJobs : operation ≡ GetJobs → IsNot (One IsSomeBoolean) (codes "my-jobs") attributes
      → Misuses operation attributes
  RequestedAttributes : WantsAttributes operation
      → IsNot AreKeywords (codes "requested-attributes") attributes
      → Misuses operation attributes
