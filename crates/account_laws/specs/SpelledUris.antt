-- A URI in its parts (RFC 3986 section 3). Scheme and authority are not looked at, and nothing is
-- percent-decoded (this project's own).
use Rattle.std.specs.Prelude.{◌≡◌, ◌≢◌, ◌⊎◌, ℕ, ◌<◌, true, false, nat_eq, codes, List, [], ◌∷◌, ◌++◌, length, drop}
use Rattle.std.specs.List.{AllByRecursion, starts_with}

-- a "?" (63) begins the query, and a "#" (35) the fragment
abbrev pub EndsPath : ℕ → Type 0
EndsPath c = (c ≡ 63) ⊎ (c ≡ 35)

-- nothing, or a query or a fragment
abbrev pub IsTail : List ℕ → Type 0
IsTail tail = (tail ≡ []) ⊎ ((c : ℕ) × (rest : List ℕ) × (tail ≡ c ∷ rest) × EndsPath c)

-- The base, the path and a tail, one after the other, are the URI. The base is a scheme, the first
-- "://" and an authority without "/" (47). The path begins with "/", and goes on to the tail.
pub record HasParts (uri base path : List ℕ) : Type 0 where
  pub scheme : List ℕ
  pub authority : List ℕ
  pub tail : List ℕ
  pub uri_is : uri ≡ base ++ (path ++ tail)
  pub base_is : base ≡ scheme ++ (codes "://" ++ authority)
  pub is_first : (place : ℕ) → place < length scheme →
      starts_with nat_eq (drop place uri) (codes "://") ≡ false
  pub authority_goes_on : AllByRecursion (λ (c : ℕ). c ≢ 47) authority
  pub path_begins : starts_with nat_eq path (codes "/") ≡ true
  pub path_goes_on : AllByRecursion (λ (c : ℕ). EndsPath c → ⊥) path
  pub tail_is : IsTail tail
