-- The law of src/laws.rt: what the parts of a URI are, however it is cut.
use Rattle.std.specs.Prelude.{◌≡◌, ℕ, ◌<◌, true, false, nat_eq, List, [], ◌∷◌, ◌++◌, length, drop, Some, codes}
use Rattle.std.specs.List.{starts_with, list_any}
use Rattle.account_asks.specs.Uris.{UriParts, is_slash, ends_path, parts_of}

-- nothing, or a query or a fragment
abbrev pub IsTail : List ℕ → Type 0
IsTail [] = Unit {0}
IsTail (c ∷ rest) = ends_path c ≡ true

-- the base, the path and a tail, one after the other, are the URI; the base is a scheme, the first
-- "://" and an authority without "/", and the path begins with "/" and has no "?" and no "#"
pub record IsMadeOf (uri base path : List ℕ) : Type 0 where
  pub scheme : List ℕ
  pub authority : List ℕ
  pub tail : List ℕ
  pub uri_is : uri ≡ base ++ (path ++ tail)
  pub base_is : base ≡ scheme ++ (codes "://" ++ authority)
  pub scheme_goes_on : (place : ℕ) → place < length scheme →
      starts_with nat_eq (drop place uri) (codes "://") ≡ false
  pub authority_goes_on : list_any is_slash authority ≡ false
  pub path_begins : starts_with nat_eq path (codes "/") ≡ true
  pub path_goes_on : list_any ends_path path ≡ false
  pub tail_ends_path : IsTail tail

-- a URI has the parts that it is made of, and no others
pub record UrisAreMadeOfParts : Type 0 where
  pub are_made : (uri : List ℕ) (parts : UriParts) →
      parts_of uri ≡ Some parts → IsMadeOf uri parts.base parts.path
  pub are_parts : (uri base path : List ℕ) →
      IsMadeOf uri base path → parts_of uri ≡ Some (record { base = base; path = path })
