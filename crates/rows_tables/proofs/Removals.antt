-- What DELETE leaves of a table.
use Rattle.std.proofs.Common.{◌≡◌, ℕ, List, [], ◌∷◌, Option, Ok, refl, sym, ap, subst, inl, inr}
use Rattle.sqlite_value.specs.Order.{Row}
use Rattle.sqlite_trees.specs.Tree.{Trees}
use Rattle.sqlite_sql.specs.Term.{Term, col}
use Rattle.sqlite_schema.specs.declared.schema.Table.{Table}
use Rattle.sqlite_rules.specs.Lists.{Has}
use Rattle.sqlite_rules.specs.Calls.{ids_of}
use Rattle.sqlite.specs.Rows.{Written, Deletes}
use Rattle.rows_tables.specs.Places.{row_number}
use Rattle.rows_tables.specs.Queries.{of_table, passes}
use Rattle.rows_tables.proofs.Edits.{AreNumbered, Wrote, taken_out, left_in, edit_wrote, edit_from, edit_keeps}
use Rattle.rows_tables.proofs.Finds.{Removes}
use Rattle.rows_tables.proofs.StatementParts.{went, same_value, task_of, found_by}

pub deleted : (limit : Option ℕ) (params : Row) (table : Table) (tests : List Term) (db : Trees) (w : Written) → AreNumbered (db table.tree)
    → Deletes (task_of limit params table) (record { lets = []; body = of_table table.tree tests (col 1 row_number ∷ []) [] }) db (Ok w)
    → Removes (passes tests params) (db table.tree) (w.trees table.tree) × Wrote table db w.trees
deleted limit params table tests db w was h =
    let asked = went h in
    let wrote = went asked.2 in
    let trees : w.trees ≡ wrote.0 = ap (λ (it : Written). it.trees) (same_value wrote.2) in
    let found = found_by table.tree tests [] db params asked.0 asked.1 (λ r. refl) in (
      record {
        from = λ x k. elim (edit_from table db wrote.0 (ids_of asked.0) [] was wrote.1 x (subst (λ t. Has (t table.tree) x) trees k)) [
          | inl none ↦ absurd none
          | inr left ↦ taken_out (passes tests params) (db table.tree) asked.0 was found x left
        ];
        kept = λ x k isnt. subst (λ t. Has (t table.tree) x) (sym trees) (edit_keeps table db wrote.0 (ids_of asked.0) [] was wrote.1 x (left_in (passes tests params) (db table.tree) asked.0 was found x k isnt));
      },
      subst (Wrote table db) (sym trees) (edit_wrote table db wrote.0 (ids_of asked.0) [] was wrote.1),
    )
