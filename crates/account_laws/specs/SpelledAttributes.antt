-- What the attributes of a message say (RFC 8010 section 3; what has no section beside it is this
-- project's own).
use Rattle.std.specs.Prelude.{◌≡◌, ◌≢◌, ◌⊎◌, ℕ, ◌<◌, ◌≤◌, ◌^◌, Bool, true, if◌then◌else◌, codes, List, [], ◌∷◌, ◌++◌, Option, Some, None}
use Rattle.std.specs.Int.{to_be_bytes, w32}
use Rattle.std.specs.List.{AllByRecursion}
use Rattle.std.specs.Str.{str_eq_ignore_ascii_case}
use Rattle.ipp_coding.specs.Plain.{PlainAttribute, PlainGroup, PlainValue}
use Rattle.ipp_coding.specs.Values.{IsTextWithLanguage}
use Rattle.account_asks.specs.declared.ask.Which.{Which}
use Rattle.account_asks.specs.declared.ask.Which.TheVariants.{NotCompleted, Completed}
use Rattle.account_rules.specs.declared.format.Format.{Format}
use Rattle.account_rules.specs.declared.format.Format.TheVariants.{OctetStream, Pdf, PostScript, Jpeg, PwgRaster, Urf, Plain}

-- ---- attributes and groups

-- The first of the attributes that has the name has these values: of several with one name the
-- first counts.
pub record HasValues (name : List ℕ) (attributes : List PlainAttribute) (values : List PlainValue)
    : Type 0 where
  pub earlier : List PlainAttribute
  pub later : List PlainAttribute
  pub stands : attributes ≡ earlier ++ record { name = name; values = values } ∷ later
  pub is_first : AllByRecursion (λ (other : PlainAttribute). other.name ≢ name) earlier

-- none of them has it
abbrev pub HasNone : (name : List ℕ) (attributes : List PlainAttribute) → Type 0
HasNone name attributes =
    AllByRecursion (λ (other : PlainAttribute). other.name ≢ name) attributes

-- its one value says x
pub record Says {A : Type 0} (IsSaid : PlainValue → A → Type 0) (name : List ℕ)
    (attributes : List PlainAttribute) (x : A) : Type 0 where
  pub value : PlainValue
  pub is_there : HasValues name attributes (value ∷ [])
  pub is_said : IsSaid value x

-- or it is absent, and then x is this
abbrev pub SaysOr : {A : Type 0} (IsSaid : PlainValue → A → Type 0) (absent : A)
    (name : List ℕ) (attributes : List PlainAttribute) (x : A) → Type 0
SaysOr IsSaid absent name attributes x =
    Says IsSaid name attributes x ⊎ (HasNone name attributes × (x ≡ absent))

-- the first group 0x02, of the job, has these attributes; where there is none, it has none
pub record IsJobGroup (groups : List PlainGroup) (attributes : List PlainAttribute)
    : Type 0 where
  pub earlier : List PlainGroup
  pub later : List PlainGroup
  pub stands : groups ≡ earlier ++ record { tag = 0x02; attributes = attributes } ∷ later
  pub is_first : AllByRecursion (λ (other : PlainGroup). other.tag ≢ 0x02) earlier

abbrev pub AreOfJob : List PlainGroup → List PlainAttribute → Type 0
AreOfJob groups attributes =
    IsJobGroup groups attributes
    ⊎ (AllByRecursion (λ (other : PlainGroup). other.tag ≢ 0x02) groups × (attributes ≡ []))

-- ---- values, by their syntax (RFC 8010 sections 3.5.2 and 3.9)

abbrev pub IsUnder : (tag : ℕ) (value : PlainValue) (bytes : List ℕ) → Type 0
IsUnder tag value bytes = (value.tag ≡ tag) × (value.bytes ≡ bytes)

-- an integer 0x21 that is not negative: four bytes, the highest first
abbrev pub IsInteger : PlainValue → ℕ → Type 0
IsInteger value n = IsUnder 0x21 value (to_be_bytes w32 n) × (n < 2 ^ 31)

-- a boolean 0x22: one byte
abbrev pub IsBoolean : PlainValue → Bool → Type 0
IsBoolean value b = IsUnder 0x22 value ((if b then 1 else 0) ∷ [])

-- a nameWithoutLanguage 0x42, or the text of a nameWithLanguage 0x36
abbrev pub IsName : PlainValue → List ℕ → Type 0
IsName value text =
    IsUnder 0x42 value text ⊎ ((value.tag ≡ 0x36) × IsTextWithLanguage value.bytes text)

-- the media types of the formats (RFC 8011 section 5.4.22)
abbrev pub media_type_of : Format → List ℕ
media_type_of OctetStream = codes "application/octet-stream"
media_type_of Pdf = codes "application/pdf"
media_type_of PostScript = codes "application/postscript"
media_type_of Jpeg = codes "image/jpeg"
media_type_of PwgRaster = codes "image/pwg-raster"
media_type_of Urf = codes "image/urf"
media_type_of Plain = codes "text/plain"

-- a mimeMediaType 0x49: letters without case; parameters, behind a ";" (59), do not count
pub record IsMediaType (value : PlainValue) (format : Format) : Type 0 where
  pub named : List ℕ
  pub parameters : List ℕ
  pub is : IsUnder 0x49 value (named ++ parameters)
  pub goes_on : AllByRecursion (λ (c : ℕ). c ≢ 59) named
  pub is_behind : (parameters ≡ []) ⊎ ((rest : List ℕ) × (parameters ≡ 59 ∷ rest))
  pub names : str_eq_ignore_ascii_case named (media_type_of format) ≡ true

-- a keyword 0x44 of which-jobs (RFC 8011 section 4.2.6.1)
abbrev pub which_keyword : Which → List ℕ
which_keyword NotCompleted = codes "not-completed"
which_keyword Completed = codes "completed"

abbrev pub IsWhich : PlainValue → Which → Type 0
IsWhich value which = IsUnder 0x44 value (which_keyword which)

abbrev pub IsLimit : PlainValue → Option ℕ → Type 0
IsLimit value None = ⊥
IsLimit value (Some n) = IsInteger value n × (1 ≤ n)
