-- Which bytes spell a message, and which a text with its language (RFC 8010 sections 3.1, 3.5 and
-- 3.9; what has no section beside it is this project's own). Numbers are big-endian.
use Rattle.std.specs.Prelude.{◌≡◌, ◌≢◌, ◌↔◌, ℕ, ◌<◌, ◌≤◌, ◌^◌, List, [], ◌∷◌, ◌++◌, length}
use Rattle.std.specs.Int.{bytes_high_first}
use Rattle.std.specs.List.{flat_map, AllByRecursion}
use Rattle.ipp_coding.specs.Plain.{PlainAttribute, PlainGroup, PlainMessage, PlainValue}
use Rattle.ipp_coding.specs.Spelling.{Spells}
use Rattle.ipp_coding.specs.Values.{IsTextWithLanguage}

-- ---- the bytes

-- a name or a value behind its length in two bytes (section 3.1.4)
abbrev pub part_bytes : List ℕ → List ℕ
part_bytes bytes = bytes_high_first 2 (length bytes) ++ bytes

-- value-tag, name and value
abbrev pub named_bytes : (name : List ℕ) → PlainValue → List ℕ
named_bytes name value = value.tag ∷ (part_bytes name ++ part_bytes value.bytes)

-- the first value has the attribute's name, and each further one an empty name (section 3.1.5)
abbrev pub values_bytes : (name : List ℕ) → List PlainValue → List ℕ
values_bytes name [] = []
values_bytes name (first ∷ further) = named_bytes name first ++ flat_map (named_bytes []) further

abbrev pub attribute_bytes : PlainAttribute → List ℕ
attribute_bytes a = values_bytes a.name a.values

-- begin-attribute-group-tag and the attributes (section 3.1.2)
abbrev pub group_bytes : PlainGroup → List ℕ
group_bytes g = g.tag ∷ flat_map attribute_bytes g.attributes

-- version-number, operation-id or status-code, request-id; the groups; end-of-attributes-tag 0x03;
-- and all that follows is the data (section 3.1.1)
abbrev pub message_bytes : PlainMessage → List ℕ
message_bytes m =
    m.header.major
    ∷ m.header.minor
    ∷ ((bytes_high_first 2 m.header.code ++ bytes_high_first 4 m.header.request_id)
    ++ (flat_map group_bytes m.groups ++ (0x03 ∷ m.payload)))

-- ---- what can be spelled

-- value tags are 0x10 to 0xFF (section 3.5.2); a name and a value have 32767 bytes at most
abbrev pub CanBeValue : PlainValue → Type 0
CanBeValue value = (0x10 ≤ value.tag) × (length value.bytes ≤ 32767)

abbrev pub CanBeValues : List PlainValue → Type 0
CanBeValues [] = ⊥
CanBeValues (first ∷ further) = AllByRecursion CanBeValue (first ∷ further)

abbrev pub CanBeAttribute : PlainAttribute → Type 0
CanBeAttribute a = (0 < length a.name) × (length a.name ≤ 32767) × CanBeValues a.values

-- group tags are 0x01 to 0x0F without 0x03 (section 3.5.1)
abbrev pub CanBeGroup : PlainGroup → Type 0
CanBeGroup g =
    (0 < g.tag) × (g.tag < 0x10) × (g.tag ≢ 0x03) × AllByRecursion CanBeAttribute g.attributes

-- ---- the laws

pub record IsInBytes (m : PlainMessage) (body : List ℕ) : Type 0 where
  pub code : m.header.code < 2 ^ 16
  pub request_id : m.header.request_id < 2 ^ 32
  pub groups : AllByRecursion CanBeGroup m.groups
  pub bytes : body ≡ message_bytes m

abbrev pub MessagesAreInBytes : Type 0
MessagesAreInBytes = (m : PlainMessage) (body : List ℕ) → Spells m body ↔ IsInBytes m body

-- a language and a text, each behind its length in two bytes (section 3.9)
pub record IsTextInBytes (bytes text : List ℕ) : Type 0 where
  pub language : List ℕ
  pub language_fits : length language < 2 ^ 16
  pub text_fits : length text < 2 ^ 16
  pub parts : bytes ≡ part_bytes language ++ part_bytes text

abbrev pub TextsAreInBytes : Type 0
TextsAreInBytes = (bytes text : List ℕ) → IsTextWithLanguage bytes text ↔ IsTextInBytes bytes text
