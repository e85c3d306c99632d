-- The names of all accounts that are open, and which of them come next (all this project's own).
use Rattle.std.specs.Prelude.{◌≡◌, ℕ, Any, List, [], ◌∷◌, filter, take, Option, None, Some, ◌↔◌}
use Rattle.std.specs.declared.cmp.Ordering.TheVariants.{Less}
use Rattle.std.specs.List.{AllByRecursion}
use Rattle.std.specs.Ordering.{is_lt}
use Rattle.account_rules.specs.Devices.{name_cmp}

-- each comes before all after it
abbrev pub NamesRise : List (List ℕ) → Type 0
NamesRise [] = Unit {0}
NamesRise (name ∷ names) =
    AllByRecursion (λ later. name_cmp name later ≡ Less) names × NamesRise names

-- these and no others, in the order of their bytes
pub record AreNames (IsOpen : List ℕ → Type 0) (names : List (List ℕ)) : Type 0 where
  pub rise : NamesRise names
  pub exactly : (name : List ℕ) → Any (λ other. other ≡ name) names ↔ IsOpen name

-- how many are told at once
abbrev pub most_names : ℕ
most_names = 100

-- where one begins: behind the empty text all names come
abbrev pub from_name : Option (List ℕ) → List ℕ
from_name None = []
from_name (Some name) = name

abbrev pub next_names : (behind : Option (List ℕ)) (names : List (List ℕ)) → List (List ℕ)
next_names behind names =
    take most_names (filter (λ name. is_lt (name_cmp (from_name behind) name)) names)
