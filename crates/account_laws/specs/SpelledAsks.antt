-- What a request asks is what its bytes spell, and what spells a request is taken as one (RFC 8010
-- section 3, RFC 8011 sections 4 and 5; what has no section beside it is this project's own). Ids,
-- names, values and limits stand here as numbers and texts.
use Rattle.std.specs.Prelude.{◌≡◌, ◌⊎◌, ℕ, true, codes, List, [], ◌∷◌, Ok}
use Rattle.std.specs.Str.{str_eq_ignore_ascii_case}
use Rattle.ipp_coding.specs.Plain.{PlainAttribute, PlainGroup, PlainMessage}
use Rattle.ipp_coding.specs.Spelling.{Spells}
use Rattle.ipp_coding.specs.declared.message.Header.{Header}
use Rattle.account_asks.specs.Asks.{PlainAsk, ask_of}
use Rattle.account_laws.specs.AsksLieWithin.{AreBytes}
use Rattle.account_laws.specs.NamedTargets.{IsFor}
use Rattle.account_laws.specs.OperationIds.{id_of}
use Rattle.account_laws.specs.SpelledOperations.{SaysAll}

-- ---- the header

-- version 1.x or 2.x (RFC 8011 section 4.1.8)
abbrev pub IsServed : Header → Type 0
IsServed header = (header.major ≡ 1) ⊎ (header.major ≡ 2)

-- ---- how its attributes begin

-- its first group is 0x01, with these attributes (RFC 8011 section 4.1.1)
pub record BeginsBy (attributes : List PlainAttribute) (m : PlainMessage) : Type 0 where
  pub further : List PlainGroup
  pub groups : m.groups ≡ record { tag = 0x01; attributes = attributes } ∷ further

-- an attribute with one value
abbrev pub one_value : (name : List ℕ) (tag : ℕ) (bytes : List ℕ) → PlainAttribute
one_value name tag bytes =
    record { name = name; values = record { tag = tag; bytes = bytes } ∷ [] }

-- they begin with this charset and with the natural language (RFC 8011 section 4.1.4)
pub record HasCharset (charset : List ℕ) (attributes : List PlainAttribute) : Type 0 where
  pub language : List ℕ
  pub later : List PlainAttribute
  pub are : attributes
      ≡ one_value (codes "attributes-charset") 0x47 charset
      ∷ one_value (codes "attributes-natural-language") 0x48 language
      ∷ later

-- ---- the laws

-- The message's header has the operation, its first group has the attributes, and its data is the
-- document, whole. The charset is utf-8 in letters of any case (RFC 8011 section 4.1.4.1).
pub record IsSpelled (account : List ℕ) (m : PlainMessage) (ask : PlainAsk) : Type 0 where
  pub header : ask.header ≡ m.header
  pub version : IsServed m.header
  pub operation : m.header.code ≡ id_of ask.operation
  pub attributes : List PlainAttribute
  pub begins : BeginsBy attributes m
  pub charset : List ℕ
  pub has_charset : HasCharset charset attributes
  pub is_utf_8 : str_eq_ignore_ascii_case charset (codes "utf-8") ≡ true
  pub payload : ask.payload ≡ m.payload
  pub target : IsFor ask.operation account attributes ask.base ask.job
  pub says : SaysAll ask.operation m.groups attributes ask

-- one message spells the bytes, and no other; it spells no other bytes; this holds of it
pub record OfMessage (body : List ℕ) (Holds : PlainMessage → Type 0) : Type 0 where
  pub message : PlainMessage
  pub spells : Spells message body
  pub is_one : (other : PlainMessage) → Spells other body → other ≡ message
  pub only_so : (other : List ℕ) → Spells message other → other ≡ body
  pub holds : Holds message

-- a request that passes its checks asks what its message says
abbrev pub AsksAreSpelled : Type 0
AsksAreSpelled =
    (account body : List ℕ) (ask : PlainAsk)
    → AreBytes body → ask_of account body ≡ Ok ask
    → OfMessage body (λ m. IsSpelled account m ask)

-- and a request whose message says what one may say passes its checks, and asks just that
abbrev pub SpelledAsksAreTaken : Type 0
SpelledAsksAreTaken =
    (account body : List ℕ) (m : PlainMessage) (ask : PlainAsk)
    → AreBytes body → Spells m body → IsSpelled account m ask → ask_of account body ≡ Ok ask
