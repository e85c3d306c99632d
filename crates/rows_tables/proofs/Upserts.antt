-- What INSERT .. ON CONFLICT .. DO UPDATE of one row leaves of a table.
use Rattle.std.proofs.Common.{◌≡◌, ℕ, ◌/◌, ℤ, Bool, true, false, List, [], ◌∷◌, ◌++◌, length, map, drop, Option, Some, None, Ok, refl, sym, ap, subst, ◌∙◌, inl, inr}
use Rattle.std.proofs.lemmas.Bool.{cases_Bool}
use Rattle.sqlite_value.specs.declared.value.Value.{Value}
use Rattle.sqlite_value.specs.declared.value.Value.TheVariants.{Null, Int}
use Rattle.sqlite_value.specs.declared.keys.Collation.TheVariants.{Binary}
use Rattle.sqlite_value.specs.Order.{Row}
use Rattle.sqlite_value.specs.Keys.{plain}
use Rattle.sqlite_trees.specs.Tree.{Trees, rowid}
use Rattle.sqlite_sql.specs.Term.{Term, col}
use Rattle.sqlite_schema.specs.declared.schema.Table.{Table}
use Rattle.sqlite_schema.specs.declared.schema.Column.{Column}
use Rattle.sqlite_schema.specs.declared.schema.Keys.TheVariants.{Enforced}
use Rattle.sqlite_schema.specs.declared.schema.Kind.TheVariants.{Integer}
use Rattle.sqlite_schema.specs.declared.command.Upsert.{Upsert}
use Rattle.sqlite_schema.specs.declared.command.Conflict.TheVariants.{Abort}
use Rattle.sqlite_schema.specs.declared.command.Source.TheVariants.{Values}
use Rattle.sqlite_schema.specs.Rules.{agree, equal}
use Rattle.sqlite_rules.specs.Cast.{cast, cast_row}
use Rattle.sqlite_rules.specs.Keys.{conflicts, AreConflicts}
use Rattle.sqlite_rules.specs.Lists.{Has}
use Rattle.sqlite_rules.specs.declared.error.Refusal.{Refusal}
use Rattle.sqlite_rules.specs.declared.error.Rowids.TheVariants.{Chosen}
use Rattle.sqlite_rules.specs.Edit.{id_in, with_rowid, next_rowid}
use Rattle.sqlite_rules.specs.Calls.{ids_of}
use Rattle.sqlite_rules.specs.Action.{Writes}
use Rattle.sqlite_rules.proofs.KeyLemmas.{agree_back, agree_chain}
use Rattle.sqlite_rules.proofs.ListLemmas.{all_has}
use Rattle.sqlite_rules.proofs.PlaceLemmas.{given, tied_same}
use Rattle.sqlite_rules.proofs.ProbeLemmas.{has_mapped, mapped_has}
use Rattle.sqlite_rules.proofs.TableLemmas.{int_is}
use Rattle.sqlite.specs.Effect.{Answers, value_rows}
use Rattle.sqlite.specs.Rows.{Written, Task, shown, stamped, Updates, InsertsOr, TriesEach, count_of, nothing, Puts, Clears, Meets, Upserts, Judged, Tries}
use Rattle.rows_tables.specs.Places.{row_number}
use Rattle.rows_tables.specs.Tables.{room_schema, keyed}
use Rattle.rows_tables.specs.Queries.{of_table, passes, shows_of}
use Rattle.rows_tables.proofs.Edits.{AreNumbered, Wrote, taken_out, left_in, edit_wrote, edit_from, edit_keeps, edit_adds}
use Rattle.rows_tables.proofs.Finds.{IsOnce, Replaces}
use Rattle.rows_tables.proofs.Queries.{answer_is, finds_shown}
use Rattle.rows_tables.proofs.StatementParts.{went, same_value, never, cast_integer, equal_ties, integer_equal, task_of, found_by}

module _ (params : Row) (name : List ℕ) (tree : ℕ) (places : List ℕ) (columns : List Column) (cells : Row) (tests more : List Term) where
  abbrev pub the_table : Table
  the_table = keyed name tree places columns

  -- the row has the key of the cells
  abbrev pub has_same_key : Row → Bool
  has_same_key r = agree plain places r places (Null ∷ cells)

  -- what the update reads beside the row that is there: the parameters, that row's number, and the new row
  abbrev pub update_params : Value → Value → Row
  update_params id there = params ++ there ∷ shown (keyed name tree places columns) (id ∷ cells)

  abbrev pub update_clause : Upsert
  update_clause = record { target = Some places; update = Some (record { lets = []; body = of_table tree tests (col 1 row_number ∷ more) [] }) }

  -- what each such statement has to show of its own terms
  pub record IsUpsert (db : Trees) : Type 0 where
    -- no place of the key is the row number's
    pub numberless : (id : Value) (r : Row) → agree plain places r places (id ∷ cells) ≡ agree plain places r places (Null ∷ cells)
    pub recast : (id : ℤ) → cast_row (keyed name tree places columns) (Int id ∷ cells) ≡ Int id ∷ cells
    pub recast_null : cast_row (keyed name tree places columns) (Null ∷ cells) ≡ Null ∷ cells
    pub conflict : (id : Value) (r : Row) → conflicts (Some places) room_schema.indexes (keyed name tree places columns) (id ∷ cells) r ≡ agree plain places r places (id ∷ cells)
    pub asks : (id there : Value) (r : Row) → passes tests (update_params id there) r ≡ equal Binary (rowid r) there
    pub first : (id there : Value) (r : Row) → rowid (shows_of (col 1 row_number ∷ more) (update_params id there) r) ≡ rowid r
    pub updates : (id there : Value) (r : Row) → Has (db tree) r → has_same_key r ≡ true
        → cast_row (keyed name tree places columns) (drop 1 (shows_of (col 1 row_number ∷ more) (update_params id there) r)) ≡ cast Integer (rowid r) ∷ cells

  module _ (limit : Option ℕ) (db : Trees) (it : IsUpsert db) (was : AreNumbered (db tree)) (one : IsOnce (keyed name tree places columns) (db tree)) where
    abbrev pub Upserted : Trees → Type 0
    Upserted next = (id : Value) × Replaces has_same_key (id ∷ cells) (db tree) (next tree) × Wrote (keyed name tree places columns) db next

    abbrev task : Task
    task = task_of limit params (keyed name tree places columns)

    -- no row has the key: the new one is put
    inserted : (id : ℤ) (w : Written) → ((r : Row) → Has (db tree) r → has_same_key r ≡ false) → Puts task (Int id ∷ cells) db (Ok w) → Upserted w.trees
    inserted id w free h =
        let table = keyed name tree places columns in
        let wrote = went h in
        let trees : w.trees ≡ wrote.0 = ap (λ (written : Written). written.trees) (same_value wrote.2) in
        let news = (Int id ∷ cells) ∷ [] in
        let step : Writes room_schema Enforced db (record { table = table; gone = []; news = news }) (Ok wrote.0) =
        subst (λ row. Writes room_schema Enforced db (record { table = table; gone = []; news = row ∷ [] }) (Ok wrote.0)) (it.recast id) wrote.1 in
        subst Upserted (sym trees) (
          Int id,
          record {
            here = edit_adds table db wrote.0 [] news was step (Int id ∷ cells) (inl refl);
            from = λ x k. elim (edit_from table db wrote.0 [] news was step x k) [
              | inl new ↦ elim new [ inl same ↦ inl same | inr none ↦ absurd none ]
              | inr left ↦ inr (left, free x left)
            ];
            kept = λ x k isnt. edit_keeps table db wrote.0 [] news was step x k;
          },
          edit_wrote table db wrote.0 [] news was step,
        )

    -- the one row that has the key is given the new cells, under its number
    updated : (id : Value) (there : Row) (w : Written) → Has (db tree) there → has_same_key there ≡ true
        → Updates task (record { lets = []; body = of_table tree tests (col 1 row_number ∷ more) [] }) (update_params id (rowid there)) db (Ok w) → Upserted w.trees
    updated id there w has is h =
        let table = keyed name tree places columns in
        let asked = went h in
        let wrote = went asked.2 in
        let trees : w.trees ≡ wrote.0 = ap (λ (written : Written). written.trees) (same_value wrote.2) in
        let full = update_params id (rowid there) in
        let found = found_by tree tests more db full asked.0 asked.1 (it.first id (rowid there)) in
        let number : rowid there ≡ Int (id_in (rowid there)) = int_is (rowid there) (all_has _ (db tree) there was.1 has) in
        let new = rowid there ∷ cells in
        let remade = λ (s : Row). cast_row table (drop 1 s) in
        -- only this row passes the test of the update
        let only : (r : Row) → Has (db tree) r → passes tests full r ≡ true → r ≡ there =
        λ r k e. tied_same (db tree) r there was.0 k has (equal_ties _ _ (sym (it.asks id (rowid there) r) ∙ e)) in
        let itself : passes tests full there ≡ true = it.asks id (rowid there) there ∙ subst (λ v. equal Binary v v ≡ true) (sym number) (integer_equal _) in
        let other : (r : Row) → Has (db tree) r → has_same_key r ≡ true → r ≡ there =
        λ r k e. one r there k has (agree_chain plain places places places r (Null ∷ cells) there e (agree_back plain places places there (Null ∷ cells) is)) in
        let cast_number : cast Integer (rowid there) ≡ rowid there = subst (λ v. cast Integer v ≡ v) (sym number) (cast_integer _) in
        let becomes : remade (shows_of (col 1 row_number ∷ more) full there) ≡ new = it.updates id (rowid there) there has is ∙ ap (λ v. v ∷ cells) cast_number in
        let shown_is : (x : Row) → Has asked.0 x → remade x ≡ new = λ x k.
        let r = found_shows id (rowid there) asked.0 asked.1 x k in
        ap remade (r.3 ∙ ap (shows_of (col 1 row_number ∷ more) full) (only r.0 r.1 r.2)) ∙ becomes in
        let news = map remade asked.0 in
        let step : Writes room_schema Enforced db (record { table = table; gone = ids_of asked.0; news = news }) (Ok wrote.0) =
        subst (λ rows. Writes room_schema Enforced db (record { table = table; gone = ids_of asked.0; news = rows }) (Ok wrote.0)) (given _ news) wrote.1 in
        let some = found.complete there has itself in
        subst Upserted (sym trees) (
          rowid there,
          record {
            here = edit_adds table db wrote.0 (ids_of asked.0) news was step new (subst (Has news) (shown_is some.0 some.1) (mapped_has remade asked.0 some.0 some.1));
            from = λ x k. elim (edit_from table db wrote.0 (ids_of asked.0) news was step x k) [
              | inl fresh ↦ let y = has_mapped remade asked.0 x fresh in inl (y.2 ∙ shown_is y.0 y.1)
              | inr left ↦
                  let l = taken_out (passes tests full) (db tree) asked.0 was found x left in
                  inr (l.0, elim (cases_Bool (has_same_key x)) [ inl same ↦ absurd (let passed = ap (passes tests full) (other x l.0 same) ∙ itself in let failed = l.1 in cc) | inr apart ↦ apart ])
            ];
            kept = λ x k isnt. edit_keeps table db wrote.0 (ids_of asked.0) news was step x (left_in (passes tests full) (db tree) asked.0 was found x k (elim (cases_Bool (passes tests full x)) [
              | inl passed ↦ absurd (let same : has_same_key x ≡ true = ap has_same_key (only x k passed) ∙ is in cc)
              | inr fails ↦ fails
            ]));
          },
          edit_wrote table db wrote.0 (ids_of asked.0) news was step,
        )
      where
        found_shows : (id there : Value) (found : List Row)
            → Answers (record { schema = room_schema; trees = db }) (record { lets = []; body = of_table tree tests (col 1 row_number ∷ more) [] }) (update_params id there) found
            → (x : Row) → Has found x → (r : Row) × Has (db tree) r × (passes tests (update_params id there) r ≡ true) × (x ≡ shows_of (col 1 row_number ∷ more) (update_params id there) r)
        found_shows id there found answers x k = finds_shown (passes tests (update_params id there)) (shows_of (col 1 row_number ∷ more) (update_params id there)) (db tree) found
            (answer_is tree tests (col 1 row_number ∷ more) [] db (update_params id there) found (answers.answer Null)) x k

    cleared : (id : ℤ) (w : Written) (others : List Row) → ((r : Row) → Has (db tree) r → has_same_key r ≡ false) → Clears task Abort (Int id ∷ cells) db others (Ok w) → Upserted w.trees
    cleared id w [] free h = inserted id w free h
    cleared id w (x ∷ others) free h = inserted id w free h

    meets : (id : ℤ) (w : Written) (rows : List Row) → AreConflicts (Some places) room_schema.indexes (keyed name tree places columns) (db tree) (Int id ∷ cells) rows
        → Meets task (Upserts task Abort (Int id ∷ cells) db []) (Int id ∷ cells) db update_clause rows (Ok w) → Upserted w.trees
    meets id w [] are h = cleared id w h.0 (λ r k. elim (cases_Bool (has_same_key r)) [
      | inl same ↦ absurd (are.complete r k (it.conflict (Int id) r ∙ it.numberless (Int id) r ∙ same))
      | inr apart ↦ apart
    ]) h.2
    meets id w (there ∷ rest) are h =
        let r = are.sound there (inl refl) in
        updated (Int id) r.0 w r.1 (sym (it.numberless (Int id) r.0) ∙ sym (it.conflict (Int id) r.0) ∙ r.2)
        (subst (λ x. Updates task (record { lets = []; body = of_table tree tests (col 1 row_number ∷ more) [] }) (params ++ rowid x ∷ shown (keyed name tree places columns) (Int id ∷ cells)) db (Ok w)) r.3 h)

    judged : (id : ℤ) (w : Written) (verdict : Option Refusal) → Judged task Abort (update_clause ∷ []) (Int id ∷ cells) db verdict (Ok w) → Upserted w.trees
    judged id w None h = meets id w h.0 h.1 h.2
    judged id w (Some why) h = never h

    tried : (id : ℤ) (w : Written) → Tries task Abort (update_clause ∷ []) (Int id ∷ cells) db (Ok w) → Upserted w.trees
    tried id w (inl full) = never full.1
    tried id w (inr fits) = judged id w fits.0 fits.2

    pub upserted : (terms : List Term) (width : ℕ) (w : Written) → value_rows (stamped (keyed name tree places columns) params) width (length terms / width) terms ≡ (Null ∷ cells) ∷ []
        → InsertsOr task Abort (update_clause ∷ []) (Values terms width) db (Ok w) → Upserted w.trees
    upserted terms width w rows h =
        let sourced = went h in
        let counted = went sourced.2 in
        let put = went counted.2 in
        let last = went put.2 in
        let uncounted : counted.0 ≡ None = same_value counted.1 in
        let source : sourced.0 ≡ (Null ∷ cells) ∷ [] = sourced.1.1 ∙ rows in
        let each = subst (λ c. TriesEach task Abort (update_clause ∷ []) ((Null ∷ cells) ∷ []) (count_of c) (nothing db) (Ok put.0)) uncounted
        (subst (λ s. TriesEach task Abort (update_clause ∷ []) s (count_of counted.0) (nothing db) (Ok put.0)) source put.1) in
        let step = went each in
        let id = next_rowid (db tree) in
        let row : Tries task Abort (update_clause ∷ []) (Int id ∷ cells) db (Ok step.0) =
        subst (λ r. Tries task Abort (update_clause ∷ []) (with_rowid Chosen (db tree) r) db (Ok step.0)) it.recast_null step.1 in
        let same_last : last.0 ≡ put.0.0.trees = same_value last.1 in
        let trees : w.trees ≡ last.0 = ap (λ (written : Written). written.trees) (same_value last.2) in
        let done : put.0.0.trees ≡ step.0.trees = ap (λ (p : Written × ℤ). p.0.trees) (same_value step.2) in
        subst Upserted (sym (trees ∙ same_last ∙ done)) (tried id step.0 row)
