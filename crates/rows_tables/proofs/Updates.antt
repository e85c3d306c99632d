-- A statement that updates the row of a key: what its text has to mean, and what it leaves.
use Rattle.std.proofs.Common.{◌≡◌, ℕ, Bool, true, false, cond, List, [], ◌∷◌, length, map, drop, Option, Some, None, option_map, Ok, refl, sym, ap, subst, ◌∙◌, inl, inr}
use Rattle.std.proofs.lemmas.Bool.{cases_Bool}
use Rattle.sqlite_value.specs.declared.value.Value.TheVariants.{Null, Int}
use Rattle.sqlite_value.specs.Order.{Row, column}
use Rattle.sqlite_value.specs.Keys.{plain}
use Rattle.sqlite_trees.specs.Tree.{Trees, rowid}
use Rattle.sqlite_sql.specs.Term.{Term, col}
use Rattle.sqlite_schema.specs.declared.program.Program.{Program}
use Rattle.sqlite_schema.specs.declared.schema.Table.{Table}
use Rattle.sqlite_schema.specs.declared.schema.Column.{Column}
use Rattle.sqlite_schema.specs.declared.schema.Kind.TheVariants.{Integer}
use Rattle.sqlite_schema.specs.declared.schema.Keys.TheVariants.{Enforced}
use Rattle.sqlite_schema.specs.declared.command.Command.TheVariants.{Update}
use Rattle.sqlite_schema.specs.Rules.{agree}
use Rattle.sqlite_rules.specs.Action.{Writes}
use Rattle.sqlite_rules.specs.Calls.{ids_of}
use Rattle.sqlite_rules.specs.Cast.{cast, cast_all, cast_row}
use Rattle.sqlite_rules.specs.Edit.{id_in}
use Rattle.sqlite_rules.specs.Lists.{Has}
use Rattle.sqlite_rules.proofs.ListLemmas.{all_has}
use Rattle.sqlite_rules.proofs.PlaceLemmas.{given}
use Rattle.sqlite_rules.proofs.ProbeLemmas.{has_mapped, mapped_has}
use Rattle.sqlite_rules.proofs.TableLemmas.{int_is}
use Rattle.sqlite.specs.Effect.{Database}
use Rattle.sqlite.specs.Does.{Does, Tally}
use Rattle.sqlite.specs.Rows.{Written, Updates}
use Rattle.sqlite.specs.Listing.{understood}
use Rattle.sqlite.specs.State.{State, mode_of, Executes}
use Rattle.sqlite.proofs.Callers.{IsPlain, command_of, statement_of, runs_as}
use Rattle.rows_tables.specs.Places.{row_number}
use Rattle.rows_tables.specs.Tables.{room_schema, keyed}
use Rattle.rows_tables.specs.Keyed.{HasSchema, SetsRow, has_key, row_at}
use Rattle.rows_tables.specs.Queries.{of_table, passes, shows_of}
use Rattle.rows_tables.proofs.Edits.{AreNumbered, Wrote, edit_adds, edit_from, edit_keeps, edit_wrote, left_in, taken_out}
use Rattle.rows_tables.proofs.Finds.{IsOnce, Replaces, found_at, key_passed, key_shared, replaced}
use Rattle.rows_tables.proofs.KeyedRows.{row_of}
use Rattle.rows_tables.proofs.KeyedTables.{places_from, IsInSchema}
use Rattle.rows_tables.proofs.Queries.{answer_is, finds_shown}
use Rattle.rows_tables.proofs.Settings.{AllKept, all_kept}
use Rattle.rows_tables.proofs.Statements.{numbered_in, fits_in, once_in, keeps_schema}
use Rattle.rows_tables.proofs.StatementParts.{went, same_value, cast_integer, found_by, task_of}

module _ {at : ℕ} {name : List ℕ} {tree : ℕ} {columns : List Column} (key : Row) (in_schema : IsInSchema at name tree (length key) columns) (text : List ℕ) (tests more : List Term) (params : Row) where
  abbrev places : List ℕ
  places = places_from (length key) 1

  abbrev table : Table
  table = keyed name tree places columns

  abbrev asked_rows : Program
  asked_rows = record { lets = []; body = of_table tree tests (col 1 row_number ∷ more) [] }

  -- the text gives the row of the key other cells
  pub record IsUpdating (becomes : Row → Row) : Type 0 where
    pub command : command_of (understood room_schema text) ≡ Update at asked_rows
    pub is_plain : IsPlain (understood room_schema text)
    pub asks : (r : Row) → passes tests params r ≡ has_key table key r
    -- the number of the row, and the whole new row
    pub shows : (r : Row) → drop 1 (shows_of (col 1 row_number ∷ more) params r) ≡ column r 0 ∷ becomes (drop 1 r)

  module _ (becomes : Row → Row) (it : IsUpdating becomes) (limit : Option ℕ) (db : Trees) (was : AreNumbered (db tree)) (one : IsOnce table (db tree)) (w : Written) (h : Updates (task_of limit params table) asked_rows params db (Ok w)) where
    updated_wrote : Wrote table db w.trees
    updated_wrote =
        let asked = went h in
        let wrote = went asked.2 in
        let trees : w.trees ≡ wrote.0 = ap (λ (written : Written). written.trees) (same_value wrote.2) in
        subst (Wrote table db) (sym trees) (edit_wrote table db wrote.0 (ids_of asked.0) _ was wrote.1)

    module _ (there : Row) (listed : Has (db tree) there) (has_it : has_key table key there ≡ true) (kept : AllKept columns (becomes (drop 1 there))) (keeps_key : has_key table key (rowid there ∷ becomes (drop 1 there)) ≡ true) where
      abbrev new : Row
      new = rowid there ∷ becomes (drop 1 there)

      abbrev has_its_key : Row → Bool
      has_its_key x = agree plain places x places new

      only : (r : Row) → Has (db tree) r → passes tests params r ≡ true → r ≡ there
      only r k e = one r there k listed (key_shared table key [] [] r there (sym (it.asks r) ∙ e) has_it)

      abbrev remade : Row → Row
      remade s = cast_row table (drop 1 s)

      becomes_new : remade (shows_of (col 1 row_number ∷ more) params there) ≡ new
      becomes_new =
          let number : rowid there ≡ Int (id_in (rowid there)) = int_is (rowid there) (all_has _ (db tree) there was.1 listed) in
          let cast_number : cast Integer (rowid there) ≡ rowid there = subst (λ v. cast Integer v ≡ v) (sym number) (cast_integer _) in
          ap (λ row. cast Integer (column row 0) ∷ cast_all columns (drop 1 row)) (it.shows there) ∙ ap (λ v. v ∷ cast_all columns (becomes (drop 1 there))) cast_number ∙ ap (λ vs. rowid there ∷ vs) (all_kept columns (becomes (drop 1 there)) kept)

      updated_row : Replaces has_its_key new (db tree) (w.trees tree)
      updated_row =
          let asked = went h in
          let wrote = went asked.2 in
          let trees : w.trees ≡ wrote.0 = ap (λ (written : Written). written.trees) (same_value wrote.2) in
          let found = found_by tree tests more db params asked.0 asked.1 (λ r. refl) in
          let itself : passes tests params there ≡ true = it.asks there ∙ has_it in
          let shown_is : (x : Row) → Has asked.0 x → remade x ≡ new = λ x k.
          let r = finds_shown (passes tests params) (shows_of (col 1 row_number ∷ more) params) (db tree) asked.0 (answer_is tree tests (col 1 row_number ∷ more) [] db params asked.0 (asked.1.answer Null)) x k in
          ap remade (r.3 ∙ ap (shows_of (col 1 row_number ∷ more) params) (only r.0 r.1 r.2)) ∙ becomes_new in
          let news = map remade asked.0 in
          let step : Writes room_schema Enforced db (record { table = table; gone = ids_of asked.0; news = news }) (Ok wrote.0) =
          subst (λ rows. Writes room_schema Enforced db (record { table = table; gone = ids_of asked.0; news = rows }) (Ok wrote.0)) (given _ news) wrote.1 in
          let some = found.complete there listed itself in
          subst (λ (t : Trees). Replaces has_its_key new (db tree) (t tree)) (sym trees) (record {
            here = edit_adds table db wrote.0 (ids_of asked.0) news was step new (subst (Has news) (shown_is some.0 some.1) (mapped_has remade asked.0 some.0 some.1));
            from = λ x k. elim (edit_from table db wrote.0 (ids_of asked.0) news was step x k) [
              | inl fresh ↦ let y = has_mapped remade asked.0 x fresh in inl (y.2 ∙ shown_is y.0 y.1)
              | inr left ↦
                  let l = taken_out (passes tests params) (db tree) asked.0 was found x left in
                  inr (
                    l.0,
                    elim (cases_Bool (has_its_key x)) [
                      | inl same ↦ absurd (let is = it.asks x ∙ key_passed table key [] [] x new same keeps_key in let isnt = l.1 in cc)
                      | inr apart ↦ apart
                    ],
                  )
            ];
            kept = λ x k isnt. edit_keeps table db wrote.0 (ids_of asked.0) news was step x (left_in (passes tests params) (db tree) asked.0 was found x k (elim (cases_Bool (passes tests params x)) [
              | inl passed ↦ absurd (let same : has_its_key x ≡ true = key_shared table key [] [] x new (sym (it.asks x) ∙ passed) keeps_key in cc)
              | inr fails ↦ fails
            ]));
          })

  pub updates_row : {becomes : Row → Row} → IsUpdating becomes → (old new : State) (count : ℕ) → HasSchema old.now → Executes text params old new (Ok count)
      → HasSchema new.now × ((was : Row) → row_at table key old.now ≡ Some was → AllKept columns (becomes was) → has_key table key (Null ∷ becomes was) ≡ true → SetsRow table (becomes was) old.now new.now)
  updates_row {becomes} it old new count has h =
      let command = Update at asked_rows in
      let ran = runs_as text params old new room_schema has.schema_is command it.command it.is_plain count h in
      let statement = statement_of text (understood room_schema text) in
      let does : Does old.step_limit (mode_of old) params (record { schema = room_schema; trees = old.now.trees }) statement None command (Ok (ran.tally, new.now)) =
      subst (λ s. Does old.step_limit (mode_of old) params (record old.now { schema = s }) statement None command (Ok (ran.tally, new.now))) has.schema_is ran.changed in
      let done = went (rw in_schema.place at does) in
      let now : new.now ≡ record { schema = room_schema; trees = done.0.trees } = ap (λ (p : Tally × Database). p.1) (same_value (went (went done.2).2).2) in
      let db = old.now.trees in
      let numbered = numbered_in table in_schema.listed old.now has in
      let one = once_in table in_schema.listed in_schema.guarded db (fits_in old.now has) numbered in
      let wrote = updated_wrote becomes it old.step_limit db numbered one done.0 done.1 in
      let left = keeps_schema table old.now new.now done.0.trees has ran.sound now wrote in
      let after = once_in table in_schema.listed in_schema.guarded done.0.trees wrote.fits wrote.numbered in
      let trees : new.now.trees ≡ done.0.trees = ap (λ (d : Database). d.trees) now in (
        left.0,
        λ was is kept keeps_key.
            let r = row_of in_schema old.now has key was is in
            let same : becomes (drop 1 r.row) ≡ becomes was = ap becomes r.are_cells in
            let kept_here : AllKept columns (becomes (drop 1 r.row)) = subst (AllKept columns) (sym same) kept in
            let key_here : has_key table key (rowid r.row ∷ becomes (drop 1 r.row)) ≡ true = (in_schema.numberless (rowid r.row) (becomes (drop 1 r.row)) (Null ∷ key)).1 ∙ ap (λ cells. has_key table key (Null ∷ cells)) same ∙ keeps_key in
            let put = updated_row becomes it old.step_limit db numbered one done.0 done.1 r.row r.there r.has_the_key kept_here key_here in
            subst (λ cells. SetsRow table cells old.now new.now) same (record {
              rows = λ other.
                  ap (λ (t : Trees). option_map (drop 1) (found_at table other (t tree))) trees
                  ∙ ap (option_map (drop 1)) (replaced table other (db tree) (done.0.trees tree) (λ x. agree plain places x places (rowid r.row ∷ becomes (drop 1 r.row))) (rowid r.row ∷ becomes (drop 1 r.row)) (λ x. refl) put after)
                  ∙ by_case (has_key table other (rowid r.row ∷ becomes (drop 1 r.row))) (has_key table other (Null ∷ becomes (drop 1 r.row))) (in_schema.numberless (rowid r.row) (becomes (drop 1 r.row)) (Null ∷ other)).1 (rowid r.row ∷ becomes (drop 1 r.row)) (found_at table other (db tree));
              rest = left.1;
            }),
      )
    where
      by_case : (a b : Bool) → a ≡ b → (new : Row) (was : Option Row) → option_map (drop 1) (cond a (Some new) was) ≡ cond b (Some (drop 1 new)) (option_map (drop 1) was)
      by_case true b same new was = rw (sym same) refl
      by_case false b same new was = rw (sym same) refl
