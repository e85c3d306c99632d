-- What each refusal of a request says of the request's bytes, by its word (RFC 8010 section 3, RFC
-- 8011 sections 4 and 5; what has no section beside it is this project's own).
use Rattle.std.specs.Prelude.{◌≡◌, ◌≢◌, ℕ, ◌+◌, ◌*◌, ◌<◌, true, false, codes, List, [], ◌∷◌, ◌++◌, length, slice_index, Err}
use Rattle.std.specs.Str.{str_eq_ignore_ascii_case}
use Rattle.ipp_coding.specs.Plain.{PlainAttribute, PlainMessage, PlainValue}
use Rattle.ipp_coding.specs.Spelling.{Spells}
use Rattle.account_asks.specs.Asks.{PlainRefusal, ask_of}
use Rattle.account_asks.specs.Targets.{NamedTarget}
use Rattle.account_asks.specs.declared.ask.Which.{Which}
use Rattle.account_asks.specs.declared.operation.Operation.{Operation}
use Rattle.account_asks.specs.declared.operation.Operation.TheVariants.{GetJobs}
use Rattle.account_laws.specs.AsksLieWithin.{AreBytes}
use Rattle.account_laws.specs.MisusedAttributes.{Misuses}
use Rattle.account_laws.specs.NamedTargets.{LeadsTo, NamesTarget, uri_of}
use Rattle.account_laws.specs.OperationIds.{BringsDocument, IsOperation, MakesJob, TellsOfDocument, id_of}
use Rattle.account_laws.specs.SpelledAsks.{BeginsBy, HasCharset, OfMessage}
use Rattle.account_laws.specs.SpelledAttributes.{AreOfJob, HasNone, HasValues, IsBoolean, IsMediaType, IsName, IsUnder, IsWhich, Says}
use Rattle.account_laws.specs.SpelledTemplates.{IsSupported}
use Rattle.account_rules.specs.declared.format.Format.{Format}
use Rattle.account_rules.specs.declared.refusal.Word.{Word}
use Rattle.account_rules.specs.declared.refusal.Word.TheVariants as words

-- ---- the header

-- The first byte has the major version, and the third and fourth the operation-id (RFC 8010 section
-- 3.1.1). A byte that is not there counts as 0.
abbrev pub major_in : (body : List ℕ) → ℕ
major_in body = slice_index body 0

abbrev pub id_in : (body : List ℕ) → ℕ
id_in body = slice_index body 2 * 256 + slice_index body 3

-- ---- its operation attributes

-- they begin with this charset
abbrev pub BeginsIn : (charset : List ℕ) → PlainMessage → Type 0
BeginsIn charset m =
    (attributes : List PlainAttribute) × BeginsBy attributes m × HasCharset charset attributes

-- which is another than utf-8, in letters of any case (section 4.1.4.1)
abbrev pub BeginsInOther : PlainMessage → Type 0
BeginsInOther m =
    (charset : List ℕ) × BeginsIn charset m
    × (str_eq_ignore_ascii_case charset (codes "utf-8") ≡ false)

-- this holds of its operation and of its operation attributes
pub record OfOperation (Holds : Operation → List PlainAttribute → Type 0) (m : PlainMessage)
    : Type 0 where
  pub operation : Operation
  pub id : m.header.code ≡ id_of operation
  pub attributes : List PlainAttribute
  pub begins : BeginsBy attributes m
  pub holds : Holds operation attributes

-- ---- what it is for (section 4.1.5)

abbrev pub HasNoTarget : Operation → List PlainAttribute → Type 0
HasNoTarget operation attributes =
    (target : NamedTarget) → NamesTarget operation attributes target → ⊥

-- a URI has 1023 bytes at most (section 5.1.6)
abbrev pub HasLongTarget : Operation → List PlainAttribute → Type 0
HasLongTarget operation attributes =
    (target : NamedTarget) × NamesTarget operation attributes target
    × (1023 < length (uri_of target))

-- it leads neither to the account's queue nor to a job there
abbrev pub LeadsElsewhere : (account : List ℕ) → Operation → List PlainAttribute → Type 0
LeadsElsewhere account operation attributes =
    (target : NamedTarget) × NamesTarget operation attributes target
    × ((base : List ℕ) (job : ℕ) → LeadsTo account base job target → ⊥)

-- ---- what they say

-- its one value has this tag, and is none that is known
pub record SaysUnknown (tag : ℕ) (IsKnown : PlainValue → Type 0) (name : List ℕ)
    (attributes : List PlainAttribute) : Type 0 where
  pub value : PlainValue
  pub is_there : HasValues name attributes (value ∷ [])
  pub has_tag : value.tag ≡ tag
  pub is_unknown : IsKnown value → ⊥

-- a keyword 0x44 other than `none`
abbrev pub SaysOther : (name : List ℕ) → List PlainAttribute → Type 0
SaysOther name attributes =
    SaysUnknown 0x44 (λ value. value.bytes ≡ codes "none") name attributes

-- a document is compressed (section 4.2.1.1)
abbrev pub IsCompressed : Operation → List PlainAttribute → Type 0
IsCompressed operation attributes =
    TellsOfDocument operation × SaysOther (codes "compression") attributes

-- the media type 0x49 of a document is that of no format (section 4.2.1.1)
abbrev pub HasUnknownFormat : Operation → List PlainAttribute → Type 0
HasUnknownFormat operation attributes =
    TellsOfDocument operation
    × SaysUnknown 0x49 (λ value. (format : Format) × IsMediaType value format)
    (codes "document-format") attributes

-- Get-Jobs asks for other jobs than those that have ended or have not (section 4.2.6.1)
abbrev pub AsksForOthers : Operation → List PlainAttribute → Type 0
AsksForOthers operation attributes =
    (operation ≡ GetJobs)
    × SaysUnknown 0x44 (λ value. (which : Which) × IsWhich value which) (codes "which-jobs")
    attributes

-- a password, an octetString 0x30, is there and not empty, and it is not told how it is encrypted
-- (the attributes: PWG 5100.11)
pub record LacksEncryption (operation : Operation) (attributes : List PlainAttribute) : Type 0 where
  pub makes : MakesJob operation
  pub password : List ℕ
  pub is_said : Says (IsUnder 0x30) (codes "job-password") attributes password
  pub is_some : password ≢ []
  pub is_missing : HasNone (codes "job-password-encryption") attributes

abbrev pub IsEncrypted : Operation → List PlainAttribute → Type 0
IsEncrypted operation attributes =
    MakesJob operation × SaysOther (codes "job-password-encryption") attributes

abbrev pub HasLongPassword : Operation → List PlainAttribute → Type 0
HasLongPassword operation attributes =
    MakesJob operation
    × ((password : List ℕ) × Says (IsUnder 0x30) (codes "job-password") attributes password
    × (32 < length password))

-- a name has 255 bytes at most (sections 5.1.3 and 5.3.5)
abbrev pub HasLongName : Operation → List PlainAttribute → Type 0
HasLongName operation attributes =
    MakesJob operation
    × ((name : List ℕ) × Says IsName (codes "job-name") attributes name × (255 < length name))

-- ---- its job template attributes and its document

-- one of them that is the first of its name is not supported
pub record HasUnsupported (template : List PlainAttribute) : Type 0 where
  pub earlier : List PlainAttribute
  pub unsupported : PlainAttribute
  pub later : List PlainAttribute
  pub stands : template ≡ earlier ++ unsupported ∷ later
  pub is_first : HasNone unsupported.name earlier
  pub is_not : IsSupported unsupported → ⊥

-- the request insists on all attributes (section 4.2.1.1), of which one is not supported
pub record InsistsInVain (m : PlainMessage) (operation : Operation)
    (attributes : List PlainAttribute) : Type 0 where
  pub makes : MakesJob operation
  pub insists : Says IsBoolean (codes "ipp-attribute-fidelity") attributes true
  pub template : List PlainAttribute
  pub are_of_job : AreOfJob m.groups template
  pub is_there : HasUnsupported template

-- a document has 16 MiB at most
abbrev pub HasLargeDocument : PlainMessage → Operation → List PlainAttribute → Type 0
HasLargeDocument m operation attributes =
    BringsDocument operation × (16777216 < length m.payload)

-- ---- word by word

abbrev pub Means : (account body : List ℕ) → Word → Type 0
-- versions 1.x and 2.x are served (section 4.1.8)
Means account body words.Version = (major_in body ≢ 1) × (major_in body ≢ 2)
Means account body words.Operation = IsOperation (id_in body) → ⊥
Means account body words.Malformed = (m : PlainMessage) → Spells m body → ⊥
Means account body words.CharsetAndLanguage =
    OfMessage body (λ m. (charset : List ℕ) → BeginsIn charset m → ⊥)
Means account body words.Charset = OfMessage body BeginsInOther
Means account body words.Target = OfMessage body (OfOperation HasNoTarget)
Means account body words.TargetTooLong = OfMessage body (OfOperation HasLongTarget)
Means account body words.NotThisQueue = OfMessage body (OfOperation (LeadsElsewhere account))
Means account body words.Syntax = OfMessage body (OfOperation Misuses)
Means account body words.Compression = OfMessage body (OfOperation IsCompressed)
Means account body words.DocumentFormat = OfMessage body (OfOperation HasUnknownFormat)
Means account body words.WhichJobs = OfMessage body (OfOperation AsksForOthers)
Means account body words.PasswordEncryptionMissing = OfMessage body (OfOperation LacksEncryption)
Means account body words.PasswordEncryption = OfMessage body (OfOperation IsEncrypted)
Means account body words.PasswordTooLong = OfMessage body (OfOperation HasLongPassword)
Means account body words.JobNameTooLong = OfMessage body (OfOperation HasLongName)
Means account body words.Template = OfMessage body (λ m. OfOperation (InsistsInVain m) m)
Means account body words.DocumentTooLarge =
    OfMessage body (λ m. OfOperation (HasLargeDocument m) m)
-- a request is refused as it is read with no other word
Means account body _ = ⊥

-- a request that is refused as it is read, whatever its bytes, is refused with a word that is true
-- of it
abbrev pub RefusalsMean : Type 0
RefusalsMean =
    (account body : List ℕ) (refused : PlainRefusal)
    → AreBytes body → ask_of account body ≡ Err refused → Means account body refused.refusal.word
