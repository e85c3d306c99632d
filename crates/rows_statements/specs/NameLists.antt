-- A page of the names of accounts, as it is read from the rows of the table `account` (all this
-- project's own).
use Rattle.std.specs.Prelude.{◌≡◌, ◌≢◌, ℕ, List, [], ◌∷◌, ◌++◌, map, Option, IsSome, IsTrue}
use Rattle.sqlite_value.specs.declared.value.Value.TheVariants.{Text}
use Rattle.sqlite_value.specs.Order.{Row, column}
use Rattle.sqlite_rules.specs.Lists.{Has}
use Rattle.sqlite.specs.Effect.{Database}
use Rattle.account_state.specs.Names.{next_names, AreNames}
use Rattle.account_rules.specs.Names.{is_name}
use Rattle.rows_tables.specs.Accounts.{account_at}

-- ---- what is shown

abbrev pub name_cells : List ℕ → Row
name_cells name = Text name ∷ []

-- what is shown are names of accounts, and of the names of all accounts those that come next
pub record ShowsNames (behind : Option (List ℕ)) (db : Database) (shown : List Row) : Type 0 where
  pub of_names : (names : List (List ℕ)) → AreNames (λ name. IsSome (account_at db name)) names
      → shown ≡ map name_cells (next_names behind names)
  pub are_accounts : (row : Row) → Has shown row
      → (name : List ℕ) × IsSome (account_at db name) × (row ≡ name_cells name)

-- ---- what is told of an account

-- the row tells a name, which is put at the end
pub record ListsName (first : List (List ℕ)) (row : Row) (last : List (List ℕ)) : Type 0 where
  pub name : List ℕ
  pub told : column row 0 ≡ Text name
  pub added : last ≡ first ++ name ∷ []

abbrev pub refuses_name : Row → Type 0
refuses_name row = (name : List ℕ) → IsTrue (is_name name) → column row 0 ≢ Text name
