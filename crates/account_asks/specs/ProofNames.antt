-- For the proof of the code alone: which attributes are the first of their names, and the names in
-- an order in which each stands beside those that are the same.
use Rattle.std.specs.Prelude.{◌≡◌, ◌<◌, ℕ, Bool, false, not, List, [], ◌∷◌, length, map, take, drop, is_some, slice_index_or}
use Rattle.std.specs.Int.{from_be_bytes, to_be_bytes, w64}
use Rattle.ipp_coding.specs.declared.message.Attribute.{Attribute}
use Rattle.ipp_coding.specs.Plain.{PlainAttribute, plain_attribute}
use Rattle.account_asks.specs.declared.firsts.Key.{Key}
use Rattle.account_asks.specs.Requests.{named}

-- one of those before an attribute has its name
abbrev pub is_repeated : List PlainAttribute → PlainAttribute → Bool
is_repeated before attribute = is_some (named attribute.name before)

abbrev pub byte_at : (name : List ℕ) (place : ℕ) → ℕ
byte_at name place = slice_index_or name place 0

-- the first eight bytes, where fewer are there as if 0 followed
abbrev pub first_eight : List ℕ → List ℕ
first_eight name =
    byte_at name 0
    ∷ byte_at name 1
    ∷ byte_at name 2
    ∷ byte_at name 3
    ∷ byte_at name 4
    ∷ byte_at name 5
    ∷ byte_at name 6
    ∷ byte_at name 7
    ∷ []

-- and as a number
unfoldable pub first_bytes : List ℕ → ℕ
first_bytes name = from_be_bytes w64 (first_eight name)

-- what a name is ordered by, from which it can be told
pub record IsKeyOf (name : List ℕ) (key : Key) : Type 0 where
  pub first : key.first ≡ first_bytes name
  pub bytes : to_be_bytes w64 key.first ≡ first_eight name
  pub count : key.length ≡ length name
  pub rest : key.rest.now ≡ drop 8 name

-- the keys of the names of attributes in their order, each with its place
pub record AreKeys (keys : List (Key × ℕ)) (attributes : List Attribute) : Type 0 where
  pub all : length keys ≡ length attributes
  pub places : (k : ℕ) (key : Key × ℕ) → k < length attributes → (slice_index_or keys k key).1 ≡ k
  pub each : (k : ℕ) (key : Key × ℕ) (attribute : Attribute) → k < length attributes →
      IsKeyOf (slice_index_or attributes k attribute).name.now (slice_index_or keys k key).0

-- of each attribute whether it is the first of its name
abbrev pub AreFirsts : (firsts : List Bool) (attributes : List Attribute) → Type 0
AreFirsts firsts attributes =
    (k : ℕ) (attribute : Attribute) → k < length attributes →
    slice_index_or firsts k false
    ≡ not (is_repeated
    (map plain_attribute (take k attributes))
    (plain_attribute (slice_index_or attributes k attribute)))
