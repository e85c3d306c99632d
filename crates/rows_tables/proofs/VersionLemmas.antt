-- What the text means that asks for the version, and what it finds.
use Rattle.std.proofs.Common.{◌≡◌, ◌≢◌, Result, Ok, Err, IfOk, MatchOption, ℕ, ℤ, true, List, [], ◌∷◌, codes, Option, None, Some, refl, sym, ap, subst, slice_get, ◌∙◌, inl, inr}
use Rattle.std.proofs.Math.Bool.{and-true}
use Rattle.sqlite_tied.specs.Compute.{everything}
use Rattle.sqlite_value.specs.declared.value.Value.TheVariants.{Int}
use Rattle.sqlite_value.specs.Order.{Row, column}
use Rattle.sqlite_sql.specs.Term.{col}
use Rattle.sqlite_schema.specs.declared.schema.Schema.{Schema}
use Rattle.sqlite_schema.specs.declared.schema.Table.{Table}
use Rattle.sqlite_schema.specs.declared.schema.Index.{Index}
use Rattle.sqlite_schema.specs.declared.schema.View.{View}
use Rattle.sqlite.specs.Effect.{Database}
use Rattle.sqlite.specs.Listing.{understood}
use Rattle.rows_tables.specs.Places.{meta_tree, meta_column}
use Rattle.rows_tables.specs.Tables.{meta}
use Rattle.rows_tables.specs.declared.fault.OpenFault.{OpenFault}
use Rattle.rows_tables.specs.Making.{KeepsVersion, version_tests, IsVersionRow, HasVersion, LacksVersion}
use Rattle.rows_tables.specs.Queries.{Means, TakesParams, of_table, passes, shows_of, shown_of, IsFirst}
use Rattle.rows_tables.proofs.Queries.{finds_shown}
use Rattle.rows_tables.proofs.Reading.{empty_filter}

abbrev pub find_version_text : List ℕ
find_version_text = codes "SELECT version FROM meta WHERE id = 1"

-- whatever stands after the first table
means_behind : (tables : List Table) (indexes : List Index) (views : List View) → Means (record { tables = meta ∷ tables; indexes = indexes; views = views }) find_version_text (of_table meta_tree version_tests (col 1 meta_column.version ∷ []) []) (codes "version" ∷ []) 0
unfolding understood everything
means_behind tables indexes views = record { is = refl; lists_nothing = refl; is_plain = (refl, refl); takes = refl; is_whole = refl }

means_over : (tables : List Table) (indexes : List Index) (views : List View) → slice_get tables 0 ≡ Some meta → Means (record { tables = tables; indexes = indexes; views = views }) find_version_text (of_table meta_tree version_tests (col 1 meta_column.version ∷ []) []) (codes "version" ∷ []) 0
means_over [] indexes views first = absurd cc
means_over (table ∷ tables) indexes views first =
    let this : table ≡ meta = cc in
    subst (λ (t : Table). Means (record { tables = t ∷ tables; indexes = indexes; views = views }) find_version_text (of_table meta_tree version_tests (col 1 meta_column.version ∷ []) []) (codes "version" ∷ []) 0) (sym this) (means_behind tables indexes views)

pub find_version_is : (schema : Schema) → KeepsVersion schema → Means schema find_version_text (of_table meta_tree version_tests (col 1 meta_column.version ∷ []) []) (codes "version" ∷ []) 0
find_version_is schema first = means_over schema.tables schema.indexes schema.views first

takes_behind : (tables : List Table) (indexes : List Index) (views : List View) → TakesParams (record { tables = meta ∷ tables; indexes = indexes; views = views }) (of_table meta_tree version_tests (col 1 meta_column.version ∷ []) []) [] 0
takes_behind tables indexes views = record { given = refl; typed = refl }

takes_over : (tables : List Table) (indexes : List Index) (views : List View) → slice_get tables 0 ≡ Some meta → TakesParams (record { tables = tables; indexes = indexes; views = views }) (of_table meta_tree version_tests (col 1 meta_column.version ∷ []) []) [] 0
takes_over [] indexes views first = absurd cc
takes_over (table ∷ tables) indexes views first =
    let this : table ≡ meta = cc in
    subst (λ (t : Table). TakesParams (record { tables = t ∷ tables; indexes = indexes; views = views }) (of_table meta_tree version_tests (col 1 meta_column.version ∷ []) []) [] 0) (sym this) (takes_behind tables indexes views)

pub find_version_takes : (schema : Schema) → KeepsVersion schema → TakesParams schema (of_table meta_tree version_tests (col 1 meta_column.version ∷ []) []) [] 0
find_version_takes schema first = takes_over schema.tables schema.indexes schema.views first

-- ---- what it finds

module _ (db : Database) where
  pub none_found : IsFirst (shown_of meta_tree version_tests (col 1 meta_column.version ∷ []) [] db.trees) None → LacksVersion db
  none_found none = inl (λ row is. absurd (
      let fails = empty_filter (passes version_tests []) (shows_of (col 1 meta_column.version ∷ []) []) (db.trees meta_tree) none row is.0 in
      let passed : passes version_tests [] row ≡ true = and-true _ ∙ is.1 in
      cc))

  found_row : (shown : Row) → IsFirst (shown_of meta_tree version_tests (col 1 meta_column.version ∷ []) [] db.trees) (Some shown) → (row : Row) × IsVersionRow db row × (column row meta_column.version ≡ column shown 0)
  found_row shown first =
      let r = finds_shown (passes version_tests []) (shows_of (col 1 meta_column.version ∷ []) []) (db.trees meta_tree) (shown ∷ first.0) first.1 shown (inl refl) in
      (r.0, (r.1, sym (and-true _) ∙ r.2), ap (λ s. column s 0) (sym r.3))

  version_found : (shown : Row) (version : ℤ) → IsFirst (shown_of meta_tree version_tests (col 1 meta_column.version ∷ []) [] db.trees) (Some shown) → column shown 0 ≡ Int version → HasVersion db version
  version_found shown version first read = let r = found_row shown first in (r.0, r.1, r.2 ∙ read)

  unreadable_found : (shown : Row) → IsFirst (shown_of meta_tree version_tests (col 1 meta_column.version ∷ []) [] db.trees) (Some shown) → ((version : ℤ) → column shown 0 ≢ Int version) → LacksVersion db
  unreadable_found shown first unread = let r = found_row shown first in inr (r.0, r.1, λ version is. unread version (sym r.2 ∙ is))

  pub version_read : (shown : Row) → IsFirst (shown_of meta_tree version_tests (col 1 meta_column.version ∷ []) [] db.trees) (Some shown) → (result : Result (Option ℤ) OpenFault)
      → IfOk result (λ found. MatchOption found ((version : ℤ) → column shown 0 ≢ Int version) (λ version. column shown 0 ≡ Int version)) → IfOk result (λ found. MatchOption found (LacksVersion db) (HasVersion db))
  version_read shown first (Err fault) read = tt
  version_read shown first (Ok None) read = unreadable_found shown first read
  version_read shown first (Ok (Some version)) read = version_found shown version first read
