-- A table as a map from its keys to rows. Keys are compared as SQL's = compares them; the row
-- number is no part of a row.
use Rattle.std.specs.Prelude.{◌≡◌, ◌≢◌, ℕ, Bool, if◌then◌else◌, ◌∷◌, drop, map, filter, find, Option, Some, None, option_map, List}
use Rattle.std.specs.List.{AllByRecursion}
use Rattle.sqlite_value.specs.declared.value.Value.TheVariants.{Null}
use Rattle.sqlite_value.specs.Order.{Row}
use Rattle.sqlite_value.specs.Keys.{plain}
use Rattle.sqlite_trees.specs.View.{IsShaped}
use Rattle.sqlite_trees.specs.declared.store.Shape.TheVariants as shape
use Rattle.sqlite_schema.specs.declared.schema.Table.{Table}
use Rattle.sqlite_schema.specs.Rules.{agree}
use Rattle.sqlite.specs.Effect.{Database, IsDatabase}
use Rattle.rows_tables.specs.Tables as tables
use Rattle.rows_tables.specs.Tables.{room_schema}

-- the row, its row number first, has this key in the table
abbrev pub has_key : (table : Table) (key row : Row) → Bool
has_key table key row = agree plain table.primary row table.primary (Null ∷ key)

abbrev pub row_at : (table : Table) (key : Row) (db : Database) → Option Row
row_at table key db = option_map (drop 1) (find (has_key table key) (db.trees table.tree))

-- the rows whose cells at the places are these, which begin a key
abbrev pub rows_under : (table : Table) (places : List ℕ) (beginning : Row) (db : Database)
    → List Row
rows_under table places beginning db = map (drop 1)
    (filter (λ row. agree plain places row places (Null ∷ beginning)) (db.trees table.tree))

-- in none of the tables does a row number come twice, which the engine keeps and no clause of a
-- connection says
abbrev pub AreNumbered : List Table → Database → Type 0
AreNumbered tables db = AllByRecursion (λ table. IsShaped shape.Table (db.trees table.tree)) tables

-- it is a database with the schema of the store
pub record HasSchema (db : Database) : Type 0 where
  pub schema_is : db.schema ≡ room_schema
  pub is_database : IsDatabase db
  pub numbered : AreNumbered room_schema.tables db

-- a table is as it was, unless it is this one
abbrev pub StaysUnless : (table other : Table) (old new : Database) → Type 0
StaysUnless table other old new =
    other.tree ≢ table.tree → new.trees other.tree ≡ old.trees other.tree

-- each table but this one is as it was
pub record OnlyChanges (table : Table) (old new : Database) : Type 0 where
  pub meta : StaysUnless table tables.meta old new
  pub account : StaysUnless table tables.account old new
  pub job : StaysUnless table tables.job old new
  pub document : StaysUnless table tables.document old new
  pub grants : StaysUnless table tables.grants old new
  pub device : StaysUnless table tables.device old new
  pub rates : StaysUnless table tables.rates old new

-- the cells, which begin with their key, are the row of this key, and each other key has what it
-- had
pub record SetsRow (table : Table) (cells : Row) (old new : Database) : Type 0 where
  pub rows : (key : Row) → row_at table key new
      ≡ (if has_key table key (Null ∷ cells) then Some cells else row_at table key old)
  pub rest : OnlyChanges table old new

-- the rows whose key begins so are gone, and each other key has what it had
pub record RemovesRows (table : Table) (beginning : Row) (places : List ℕ) (old new : Database)
    : Type 0 where
  pub rows : (key : Row) → row_at table key new
      ≡ (if agree plain places (Null ∷ key) places (Null ∷ beginning) then None
      else row_at table key old)
  pub rest : OnlyChanges table old new
