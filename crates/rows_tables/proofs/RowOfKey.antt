-- The row of an exact key: it begins with the values of the key, and the row of the table that does is it.
use Rattle.std.proofs.Common.{◌≡◌, ℕ, true, false, List, [], ◌∷◌, ◌++◌, append-nil, length, drop, Some, option_map, sym, ap, subst}
use Rattle.std.specs.List.{AllByRecursion}
use Rattle.sqlite_value.specs.declared.value.Value.TheVariants.{Null}
use Rattle.sqlite_value.specs.Order.{Row}
use Rattle.sqlite_value.specs.Keys.{plain}
use Rattle.sqlite_sql.specs.Ops.{is_null}
use Rattle.sqlite_schema.specs.declared.schema.Column.{Column}
use Rattle.sqlite_schema.specs.declared.schema.Table.{Table}
use Rattle.sqlite_schema.specs.Rules.{agree}
use Rattle.sqlite_rules.specs.Lists.{Has}
use Rattle.sqlite.specs.Effect.{Database}
use Rattle.rows_tables.specs.Tables.{keyed}
use Rattle.rows_tables.specs.Keyed.{HasSchema, has_key, row_at}
use Rattle.rows_tables.proofs.Columns.{AreExact, EachIs, each_behind, each_before}
use Rattle.rows_tables.proofs.Finds.{finds_only, key_shared}
use Rattle.rows_tables.proofs.KeyedRows.{key_begins, has_values, whole_in, row_of}
use Rattle.rows_tables.proofs.KeyedTables.{places_from, IsInSchema}
use Rattle.rows_tables.proofs.Statements.{fits_in, numbered_in, once_in}

module _ {at : ℕ} {name : List ℕ} {tree width : ℕ} {columns : List Column} (in_schema : IsInSchema at name tree width columns) (db : Database) (has : HasSchema db)
    (key : Row) (long : length key ≡ width) (exact : AreExact columns key) (present : AllByRecursion (λ v. is_null v ≡ false) key) where
  abbrev table : Table
  table = keyed name tree (places_from width 1) columns

  has_it : (r : Row) → EachIs 1 key r → has_key table key r ≡ true
  has_it r is = subst (λ n. agree plain (places_from n 1) r (places_from n 1) (Null ∷ key) ≡ true) long (has_values key r present is)

  begins_so : (r : Row) → Has (db.trees tree) r → has_key table key r ≡ true → EachIs 1 key r
  begins_so r there is =
      let same = subst (λ other. agree plain (places_from width 1) r (places_from width 1) (Null ∷ other) ≡ true) (sym (append-nil key)) is in
      key_begins columns key [] r exact (whole_in in_schema db has r there).typed (subst (λ n. agree plain (places_from n 1) r (places_from n 1) (Null ∷ key ++ []) ≡ true) (sym long) same)

  pub one_row : (a b : Row) → Has (db.trees tree) a → Has (db.trees tree) b → EachIs 1 key a → EachIs 1 key b → a ≡ b
  one_row a b h k is are = once_in table in_schema.listed in_schema.guarded db.trees (fits_in db has) (numbered_in table in_schema.listed db has) a b h k (key_shared table key [] [] a b (has_it a is) (has_it b are))

  -- two rows of the same cells, of which one begins with the key, are one
  pub one_of_cells : (a b : Row) → Has (db.trees tree) a → Has (db.trees tree) b → EachIs 1 key a → drop 1 a ≡ drop 1 b → a ≡ b
  one_of_cells a b h k is same = one_row a b h k is (each_before key 0 b (subst (EachIs 0 key) same (each_behind key 0 a is)))

  pub at_its_key : (r : Row) → Has (db.trees tree) r → EachIs 1 key r → row_at table key db ≡ Some (drop 1 r)
  at_its_key r there is = ap (option_map (drop 1)) (finds_only (has_key table key) (db.trees tree) r there (has_it r is) (λ y k e. one_row y r k there (begins_so y k e) is))

  pub record IsThere (cells : Row) : Type 0 where
    pub row : Row
    pub there : Has (db.trees tree) row
    pub begins : EachIs 1 key row
    pub are_cells : drop 1 row ≡ cells

  pub there_at : (cells : Row) → row_at table key db ≡ Some cells → IsThere cells
  there_at cells is =
      let it = row_of in_schema db has key cells is in
      record { row = it.row; there = it.there; begins = begins_so it.row it.there it.has_the_key; are_cells = it.are_cells }
