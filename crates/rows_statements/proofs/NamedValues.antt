-- A table of a device's name and one value of it: what the statements on such tables share.
use Rattle.std.proofs.Common.{◌≡◌, Result, ℕ, List, [], ◌∷◌, Option, Some, option_map, refl}
use Rattle.sqlite_value.specs.declared.value.Value.{Value}
use Rattle.sqlite_value.specs.declared.value.Value.TheVariants.{Null, Text}
use Rattle.sqlite_value.specs.Order.{Row, column}
use Rattle.sqlite_value.specs.Keys.{first_key}
use Rattle.sqlite_sql.specs.Term.{Term, lit, col}
use Rattle.sqlite_schema.specs.declared.schema.Column.{Column}
use Rattle.sqlite_schema.specs.declared.schema.Table.{Table}
use Rattle.sqlite_schema.specs.declared.schema.Kind.TheVariants as kind
use Rattle.sqlite.specs.Effect.{Database}
use Rattle.sqlite.specs.State.{State}
use Rattle.sqlite.specs.declared.error.Error.{Error}
use Rattle.rows_tables.specs.Places.{device_column, row_number, cell}
use Rattle.rows_tables.specs.Tables.{column_of, keyed}
use Rattle.rows_tables.specs.Keyed.{HasSchema, row_at}
use Rattle.rows_tables.specs.Queries.{is_given, FindsRow}
use Rattle.rows_tables.specs.Calls.{Gets}
use Rattle.rows_tables.proofs.Columns.{text_is}
use Rattle.rows_tables.proofs.KeyedRows.{row_found}
use Rattle.rows_tables.proofs.KeyedTables.{IsInSchema}
use Rattle.rows_tables.proofs.Reading.{gets, without_number}

-- the read by its name

abbrev pub tests : List Term
tests = is_given device_column.name 1 ∷ []

abbrev pub shows : List Term
shows = col 1 device_column.accepting ∷ []

-- the write: its number and its key, and the new value

abbrev pub becomes : List Term
becomes = col 1 row_number ∷ col 1 device_column.name ∷ col 0 5 ∷ []

abbrev pub terms : List Term
terms = lit Null ∷ col 0 0 ∷ col 0 1 ∷ []

module _ {at : ℕ} {table_name : List ℕ} {tree : ℕ} {label : List ℕ} {second : Column} (in_schema : IsInSchema at table_name tree 1 (column_of kind.Text label ∷ second ∷ [])) where
  abbrev table : Table
  table = keyed table_name tree (1 ∷ []) (column_of kind.Text label ∷ second ∷ [])

  pub gets_row : (old new : State) (name : List ℕ) → HasSchema old.now → (result : Result (Option Row) Error) → FindsRow old new tree tests shows (Text name ∷ []) result
      → Gets old new (row_at table (Text name ∷ []) old.now) (λ cells. cell device_column.accepting cells ∷ []) result
  unfolding first_key
  gets_row old new name has result found =
      gets table in_schema.listed in_schema.guarded (Text name ∷ []) tests shows (Text name ∷ []) (λ cells. cell device_column.accepting cells ∷ []) (λ r. refl) (λ r. rw (without_number r 1) refl) old new has result found

  pub value_found : (db : Database) → HasSchema db → (name : List ℕ) (row : Row) → Some row ≡ option_map (λ cells. cell device_column.accepting cells ∷ []) (row_at table (Text name ∷ []) db)
      → (value : Value) → column row 0 ≡ value → row_at table (Text name ∷ []) db ≡ Some (Text name ∷ value ∷ [])
  value_found db has name row shown value read = row_found (Text name ∷ []) in_schema ((λ v. text_is v name), tt) db has (value ∷ []) refl row shown (read, tt)
