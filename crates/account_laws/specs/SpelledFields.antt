-- What the operation attributes of a request say of a job, of a document and of a list (RFC 8011
-- sections 4.2 and 4.3; what has no section beside it is this project's own).
use Rattle.std.specs.Prelude.{◌≡◌, ◌≢◌, ◌⊎◌, ℕ, ◌≤◌, Bool, true, false, codes, List, [], ◌∷◌, length, map, Option, Some, None}
use Rattle.ipp_coding.specs.Plain.{PlainAttribute, PlainGroup}
use Rattle.account_asks.specs.Asks.{PlainAsk}
use Rattle.account_asks.specs.declared.ask.Which.TheVariants.{NotCompleted}
use Rattle.account_rules.specs.declared.format.Format.TheVariants.{OctetStream}
use Rattle.account_laws.specs.SpelledAttributes.{AreOfJob, HasNone, HasValues, IsBoolean, IsInteger, IsLimit, IsMediaType, IsName, IsUnder, IsWhich, SaysOr}
use Rattle.account_laws.specs.SpelledTemplates.{GoBack, SaysCopies}

-- ---- of a job that is to be made (RFC 8011 sections 4.2.1.1 and 5.3.17.2; PWG 5100.11 for
-- passwords)

-- an empty name is none
abbrev pub or_untitled : List ℕ → List ℕ
or_untitled [] = codes "untitled"
or_untitled (c ∷ rest) = c ∷ rest

-- its name, of at most 255 bytes (section 5.3.5)
pub record SaysName (attributes : List PlainAttribute) (name : List ℕ) : Type 0 where
  pub given : List ℕ
  pub is_given : SaysOr IsName [] (codes "job-name") attributes given
  pub fits : length given ≤ 255
  pub is : name ≡ or_untitled given

-- the keyword `none`, the only one that is supported of encryptions and of compressions
abbrev pub SaysNone : (name : List ℕ) → List PlainAttribute → Type 0
SaysNone name attributes =
    HasValues name attributes (record { tag = 0x44; bytes = codes "none" } ∷ [])

abbrev pub NoneIfSaid : (name : List ℕ) → List PlainAttribute → Type 0
NoneIfSaid name attributes = HasNone name attributes ⊎ SaysNone name attributes

-- its password, of at most 32 bytes, empty for none. Where there is one, its encryption is told.
pub record SaysPassword (attributes : List PlainAttribute) (password : List ℕ) : Type 0 where
  pub is_said : SaysOr (IsUnder 0x30) [] (codes "job-password") attributes password
  pub fits : length password ≤ 32
  pub encryption : NoneIfSaid (codes "job-password-encryption") attributes
  pub told : password ≢ [] → SaysNone (codes "job-password-encryption") attributes

-- What its group 0x02 says. Who insists on all attributes, by ipp-attribute-fidelity, gives none
-- that is not supported (section 4.2.1.1).
pub record SaysTemplate (groups : List PlainGroup) (attributes : List PlainAttribute)
    (copies : ℕ) (unsupported : List PlainAttribute) : Type 0 where
  pub template : List PlainAttribute
  pub is_template : AreOfJob groups template
  pub copies_said : SaysCopies template copies
  pub go_back : GoBack [] template unsupported
  pub insists : Bool
  pub fidelity : SaysOr IsBoolean false (codes "ipp-attribute-fidelity") attributes insists
  pub all_supported : insists ≡ true → unsupported ≡ []

-- all that describes it
pub record DescribesJob (groups : List PlainGroup) (attributes : List PlainAttribute)
    (ask : PlainAsk) : Type 0 where
  pub name : SaysName attributes ask.name
  pub password : SaysPassword attributes ask.password
  pub impressions : SaysOr IsInteger 0 (codes "job-impressions") attributes ask.impressions
  pub template : SaysTemplate groups attributes ask.copies ask.unsupported

-- ---- of a document (RFC 8011 sections 4.2.1.1 and 4.3.1.1)

-- its format, and that it is not compressed
pub record DescribesDocument (attributes : List PlainAttribute) (ask : PlainAsk) : Type 0 where
  pub format : SaysOr IsMediaType OctetStream (codes "document-format") attributes ask.format
  pub compression : NoneIfSaid (codes "compression") attributes

-- the data of the request is a document, of at most 16 MiB
abbrev pub HandsInDocument : PlainAsk → Type 0
HandsInDocument ask = length ask.payload ≤ 16777216

-- ---- of jobs and attributes that are to be listed

-- which jobs, and how many at most (RFC 8011 section 4.2.6.1). my-jobs is a boolean and makes no
-- difference: all jobs of an account are its own.
pub record DescribesList (attributes : List PlainAttribute) (ask : PlainAsk) : Type 0 where
  pub which : SaysOr IsWhich NotCompleted (codes "which-jobs") attributes ask.which
  pub limit : SaysOr IsLimit None (codes "limit") attributes ask.limit
  pub mine : Bool
  pub my_jobs : SaysOr IsBoolean false (codes "my-jobs") attributes mine

-- the names that requested-attributes lists, each a keyword 0x44; None where it is absent
abbrev pub SaysNames : List PlainAttribute → Option (List (List ℕ)) → Type 0
SaysNames attributes None = HasNone (codes "requested-attributes") attributes
SaysNames attributes (Some names) =
    HasValues (codes "requested-attributes") attributes
    (map (λ (name : List ℕ). record { tag = 0x44; bytes = name }) names)
