-- What a statement that writes one table leaves of the database.
use Rattle.std.proofs.Common.{◌≡◌, ◌≢◌, true, false, drop, sym, ap, subst, inl, inr}
use Rattle.std.proofs.lemmas.Bool.{cases_eq, and_parts}
use Rattle.std.specs.List.{AllByRecursion}
use Rattle.sqlite_value.specs.Order.{Row}
use Rattle.sqlite_value.specs.Keys.{plain}
use Rattle.sqlite_trees.specs.Tree.{Trees}
use Rattle.sqlite_trees.specs.View.{IsShaped}
use Rattle.sqlite_trees.specs.declared.store.Shape.TheVariants as shape
use Rattle.sqlite_schema.specs.declared.schema.Constraint.TheVariants.{Unique, Datatype}
use Rattle.sqlite_schema.specs.declared.schema.Table.{Table}
use Rattle.sqlite_schema.specs.Rules as rules_of
use Rattle.sqlite_schema.specs.Rules.{clashes, Fits, Obeys}
use Rattle.sqlite_rules.specs.Lists.{Has}
use Rattle.sqlite_rules.proofs.ListLemmas.{all_has, all_from}
use Rattle.sqlite_rules.proofs.RuleLemmas.{keeps_at, fits_obeyed}
use Rattle.sqlite.specs.Effect.{Database, IsDatabase}
use Rattle.rows_tables.specs.Tables.{room_schema}
use Rattle.rows_tables.specs.Keyed.{HasSchema, OnlyChanges}
use Rattle.rows_tables.proofs.Edits.{AreNumbered, Wrote}
use Rattle.rows_tables.proofs.Finds.{IsOnce, once}

-- ---- what the schema says of a table

pub numbered_in : (table : Table) → Has room_schema.tables table → (db : Database) → HasSchema db → AreNumbered (db.trees table.tree)
numbered_in table listed db has = all_has (λ t. IsShaped shape.Table (db.trees t.tree)) room_schema.tables table has.numbered listed

pub fits_in : (db : Database) → HasSchema db → Fits room_schema db.trees
fits_in db has = fits_obeyed room_schema db.trees (subst (λ s. Obeys s db.trees) has.schema_is has.is_database.obeys)

-- the one index of a table guards its key
abbrev pub IsGuarded : Table → Type 0
IsGuarded table = (trees : Trees) (row : Row) → rules_of.passes Unique room_schema trees table row ≡ true → clashes plain table.primary (trees table.tree) row ≡ false

pub once_in : (table : Table) → Has room_schema.tables table → IsGuarded table → (trees : Trees) → Fits room_schema trees → AreNumbered (trees table.tree) → IsOnce table (trees table.tree)
once_in table listed guarded trees fits numbered = once table (trees table.tree) numbered (λ r k. guarded trees r (keeps_at Unique room_schema trees table r (fits.rules Unique (λ e. absurd cc)) listed k))

-- each value is of the kind of its column
pub typed_in : (table : Table) → Has room_schema.tables table → (db : Database) → HasSchema db → (r : Row) → Has (db.trees table.tree) r → rules_of.are_typed table.key 0 table.columns (drop 1 r) ≡ true
typed_in table listed db has r k = (and_parts _ _ (keeps_at Datatype room_schema db.trees table r ((fits_in db has).rules Datatype (λ e. absurd cc)) listed k)).0

-- what is told of each table of the schema
pub only_changes : (table : Table) (old new : Database)
    → AllByRecursion (λ other. other.tree ≢ table.tree → new.trees other.tree ≡ old.trees other.tree) room_schema.tables → OnlyChanges table old new
only_changes table old new (in_meta, (in_account, (in_job, (in_document, (in_grants, (in_device, (in_rates, _))))))) = record {
  meta = in_meta;
  account = in_account;
  job = in_job;
  document = in_document;
  grants = in_grants;
  device = in_device;
  rates = in_rates;
}

-- a write of one table keeps the schema, and every other table
pub keeps_schema : (table : Table) (old new : Database) (trees : Trees) → HasSchema old → IsDatabase new → new ≡ record { schema = room_schema; trees = trees } → Wrote table old.trees trees → HasSchema new × OnlyChanges table old new
keeps_schema table old new trees has sound now wrote =
    let here = subst (λ t. Wrote table old.trees t) (sym (ap (λ (db : Database). db.trees) now)) wrote in (
      record {
        schema_is = ap (λ (db : Database). db.schema) now;
        is_database = sound;
        numbered = all_from (λ t. IsShaped shape.Table (new.trees t.tree)) room_schema.tables (λ t listed. elim (cases_eq t.tree table.tree) [
          | inl same ↦ subst (λ n. IsShaped shape.Table (new.trees n)) (sym same) here.numbered
          | inr other ↦ subst (IsShaped shape.Table) (sym (all_has (λ u. u.tree ≢ table.tree → new.trees u.tree ≡ old.trees u.tree) room_schema.tables t here.others listed other)) (numbered_in t listed old has)
        ]);
      },
      only_changes table old new here.others,
    )
