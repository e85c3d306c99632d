-- Rule: How the names of all accounts are asked for (this project's own).
use Rattle.std.specs.Prelude.{◌≡◌, ◌≢◌, ℕ, ◌-◌, Bool, IsTrue, true, List, [], ◌∷◌, ◌++◌, codes, length, Option, None, Some}
use Rattle.std.specs.List.{slice_get}
use Rattle.std.specs.Ordering.{is_lt}
use Rattle.account_rules.specs.Devices.{name_cmp}
use Rattle.client_operator.specs.Asked.{account_asked}
use Rattle.client_operator.specs.Lines.{line_of}
use Rattle.client_operator.specs.Talks.{At, AsksList, InTurn}

abbrev pub account_told : (name : List ℕ) → List ℕ
account_told name = line_of (codes "account" ∷ name ∷ [])

abbrev pub last_of : (names : List (List ℕ)) → Option (List ℕ)
last_of names = slice_get names (length names - 1)

-- which accounts come next behind this one, or first
abbrev pub accounts_asked : (behind : Option (List ℕ)) → List ℕ
accounts_asked None = codes "accounts -"
accounts_asked (Some name) = account_asked (codes "accounts ") name

-- it comes behind this one, by their bytes, where there is one
abbrev pub is_behind : (last : Option (List ℕ)) (name : List ℕ) → Bool
is_behind None name = true
is_behind (Some last) name = is_lt (name_cmp last name)

-- a line tells of one more account, whose name comes behind those that were known before
pub record TellsName (line : List ℕ) (before after : List (List ℕ)) : Type 0 where
  pub name : List ℕ
  pub words : line ≡ account_told name
  pub rises : IsTrue (is_behind (last_of before) name)
  pub more : after ≡ before ++ name ∷ []

-- how far it has come, and the names that are known by then
pub record NamesAt : Type 0 where
  pub at : At
  pub names : List (List ℕ)

-- a page: the accounts behind the last that was known were asked for, and these lines came
pub record AsksPage (page : List (List ℕ)) (from to : NamesAt) : Type 0 where
  pub some : page ≢ []
  pub asks : AsksList from.at to.at (accounts_asked (last_of from.names)) page
  pub tells : InTurn TellsName from.names to.names page

-- page after page was asked for, from the first on, and these names were known then
abbrev pub KnowsNames : (from to : At) (names : List (List ℕ)) → Type 0
KnowsNames from to names = (pages : List (List (List ℕ)))
    × InTurn AsksPage (record { at = from; names = [] }) (record { at = to; names = names }) pages

-- until an empty page came: these are all names
pub record AsksNames (from to : At) (names : List (List ℕ)) : Type 0 where
  pub mid : At
  pub knows : KnowsNames from mid names
  pub none : AsksList mid to (accounts_asked (last_of names)) []
