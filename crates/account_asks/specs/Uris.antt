-- Rule: A URI in parts: a base, which is its scheme, "://" and its authority, the path, and a tail
-- after the path, which is left out. UriLaws says what the parts are.
use Rattle.std.specs.Prelude.{ℕ, Bool, ◌||◌, ◌==◌, if◌then◌else◌, nat_eq, List, [], ◌∷◌, ◌++◌, drop, Option, Some, None, codes, option_map, option_and_then, position, unwrap_or}
use Rattle.std.specs.List.{starts_with}
use Rattle.account_asks.specs.Requests.{up_to}

-- up to the first "://"
abbrev pub scheme_of : List ℕ → List ℕ
scheme_of [] = []
scheme_of (c ∷ rest) =
    if starts_with nat_eq (c ∷ rest) (codes "://") then [] else c ∷ scheme_of rest

-- after the first "://"
abbrev pub behind_scheme : List ℕ → Option (List ℕ)
behind_scheme [] = None
behind_scheme (c ∷ rest) =
    if starts_with nat_eq (c ∷ rest) (codes "://")
    then Some (drop 3 (c ∷ rest))
    else behind_scheme rest

abbrev pub is_slash : ℕ → Bool
is_slash c = c == 47

-- up to the first "/"
abbrev pub before_slash : List ℕ → List ℕ
before_slash bytes = up_to (position is_slash bytes) bytes

-- from the first "/" on
abbrev pub from_slash : List ℕ → Option (List ℕ)
from_slash bytes = option_map (λ place. drop place bytes) (position is_slash bytes)

-- the path begins with the first "/" after the first "://"; what stands before it, and from it on
abbrev pub before_path : List ℕ → List ℕ
before_path uri =
    scheme_of uri ++ (codes "://" ++ before_slash (unwrap_or (behind_scheme uri) []))

abbrev pub from_path : List ℕ → Option (List ℕ)
from_path uri = option_and_then from_slash (behind_scheme uri)

-- a "?" or a "#" ends the path
abbrev pub ends_path : ℕ → Bool
ends_path c = c == 63 || c == 35

abbrev pub before_query : List ℕ → List ℕ
before_query bytes = up_to (position ends_path bytes) bytes

-- what stands before the path, and the path
pub record UriParts : Type 0 where
  pub base : List ℕ
  pub path : List ℕ

abbrev pub parts_with : (base rest : List ℕ) → UriParts
parts_with base rest = record { base = base; path = before_query rest }

-- None where there is no path
abbrev pub parts_of : List ℕ → Option UriParts
parts_of uri = option_map (parts_with (before_path uri)) (from_path uri)
