-- The rows of an account, said of whole tables and not by a key: those whose account is exactly
-- this text. The row number is no part of a row, and the order of the rows says nothing.
use Rattle.std.specs.Prelude.{ℕ, Bool, false, List, ◌∷◌, drop, map, filter, bytes_eq, IsPermutation, ◌↔◌}
use Rattle.sqlite_value.specs.declared.value.Value.TheVariants.{Text}
use Rattle.sqlite_value.specs.Order.{Row}
use Rattle.sqlite_schema.specs.declared.schema.Table.{Table}
use Rattle.sqlite.specs.Effect.{Database}
use Rattle.rows_tables.specs.Tables.{account, job, document, grants}
use Rattle.rows_tables.specs.Keyed.{HasSchema}
use Rattle.rows_tables.specs.Accounts.{AgreeOnRows}

-- the first cell of the row, its account, is exactly this text
abbrev pub is_row_of : (name : List ℕ) (row : Row) → Bool
is_row_of name (Text text ∷ cells) = bytes_eq text name
is_row_of name _ = false

-- the account's rows in the table, without their row numbers
abbrev pub rows_of : (table : Table) (name : List ℕ) (db : Database) → List Row
rows_of table name db = filter (is_row_of name) (map (drop 1) (db.trees table.tree))

-- table by table, the two databases have the same rows of the account, each as often, in whatever
-- order
pub record SameRows (name : List ℕ) (a b : Database) : Type 0 where
  pub accounts : IsPermutation (rows_of account name a) (rows_of account name b)
  pub jobs : IsPermutation (rows_of job name a) (rows_of job name b)
  pub documents : IsPermutation (rows_of document name a) (rows_of document name b)
  pub grants : IsPermutation (rows_of grants name a) (rows_of grants name b)

-- two databases that agree on the rows of an account, key by key, have the same rows of it, table
-- by table, and the other way round
abbrev pub SameByKeyIsSameByTable : Type 0
SameByKeyIsSameByTable = (name : List ℕ) (a b : Database) → HasSchema a → HasSchema b
    → (AgreeOnRows name a b ↔ SameRows name a b)
