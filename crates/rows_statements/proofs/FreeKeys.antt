-- Where a row was put in its key was free.
use Rattle.std.proofs.Common.{◌≡◌, ℤ, ℕ, true, false, not, List, [], ◌∷◌, ◌++◌, suc, length, drop, find, None, option_map, Ok, refl, ap, subst, ◌∙◌, inl, inr, is_eq}
use Rattle.std.proofs.lemmas.Bool.{cases_Bool, and_parts, not-true}
use Rattle.std.proofs.lemmas.Cmp.{tied_itself}
use Rattle.sqlite_value.specs.declared.value.Value.TheVariants.{Null, Int}
use Rattle.sqlite_value.specs.Order.{Row, value_cmp}
use Rattle.sqlite_value.proofs.OrderLemmas.{value_cmp_total}
use Rattle.sqlite_sql.specs.Term.{Term}
use Rattle.sqlite_trees.specs.Tree.{Trees, rowid}
use Rattle.sqlite_schema.specs.declared.schema.Keys.TheVariants.{Enforced}
use Rattle.sqlite_schema.specs.declared.schema.Column.{Column}
use Rattle.sqlite_schema.specs.declared.schema.Table.{Table}
use Rattle.sqlite_schema.specs.declared.command.Command.{Command}
use Rattle.sqlite_schema.specs.declared.command.Command.TheVariants.{Insert}
use Rattle.sqlite_schema.specs.declared.command.Source.TheVariants.{Values}
use Rattle.sqlite_rules.specs.Action.{Writes}
use Rattle.sqlite_rules.specs.Cast.{cast_all, cast_row}
use Rattle.sqlite_rules.specs.Edit.{Edit, edit_of, is_taken, next_rowid, with_rowid}
use Rattle.sqlite_rules.specs.Lists.{Has}
use Rattle.sqlite_rules.specs.declared.error.Rowids.TheVariants.{Chosen}
use Rattle.sqlite_rules.proofs.ListLemmas.{some_from}
use Rattle.sqlite.specs.Does.{Does}
use Rattle.sqlite.specs.Listing.{understood}
use Rattle.sqlite.specs.State.{State, Executes, mode_of}
use Rattle.sqlite.proofs.Callers.{one_step, runs_as, statement_of}
use Rattle.rows_tables.specs.Tables.{room_schema, keyed}
use Rattle.rows_tables.specs.Keyed.{HasSchema, has_key, row_at}
use Rattle.rows_tables.proofs.Edits.{AreNumbered, edit_adds, edit_keeps, edit_wrote}
use Rattle.rows_tables.proofs.Finds.{IsOnce, finds_none, key_shared}
use Rattle.rows_tables.proofs.Inserts.{IsPutting}
use Rattle.rows_tables.proofs.KeyedTables.{places_from, IsInSchema}
use Rattle.rows_tables.proofs.Settings.{all_kept}
use Rattle.rows_tables.proofs.Statements.{numbered_in, once_in}
use Rattle.rows_tables.proofs.StatementParts.{cast_null, went}

module _ {at : ℕ} {name : List ℕ} {tree : ℕ} {columns : List Column} (key rest : Row) (in_schema : IsInSchema at name tree (length key) columns) (text : List ℕ) (terms : List Term) where
  abbrev cells : Row
  cells = key ++ rest

  abbrev table : Table
  table = keyed name tree (places_from (length key) 1) columns

  abbrev command : Command
  command = Insert at (Values terms (suc (length columns)))

  abbrev edit : ℤ → Edit
  edit id = record { table = table; gone = []; news = (Int id ∷ cells) ∷ [] }

  module _ (db next : Trees) (id : ℤ) (was : AreNumbered (db tree)) (step : Writes room_schema Enforced db (edit id) (Ok next)) (one : IsOnce table (next tree)) (begins : has_key table key (Int id ∷ cells) ≡ true) where
    -- the number of the new row was free
    never_there : (r : Row) → Has (db tree) r → r ≡ Int id ∷ cells → ⊥
    never_there r h same =
        let fresh = (one_step room_schema Enforced db next (edit id) refl step).fresh in
        let isnt = not-true (is_taken (db tree) (Int id ∷ cells)) (and_parts (not (is_taken (db tree) (Int id ∷ cells))) true fresh).0 in
        let tie : is_eq (value_cmp (rowid r) (Int id)) ≡ true = rw same (ap is_eq (tied_itself value_cmp_total (Int id))) in
        let is = some_from (λ x. is_eq (value_cmp (rowid x) (Int id))) (db tree) r h tie in
        cc

    none_had : (r : Row) → Has (db tree) r → has_key table key r ≡ false
    none_had r h = elim (cases_Bool (has_key table key r)) [
      | inl has ↦
          let here = edit_adds table db next [] ((Int id ∷ cells) ∷ []) was step (Int id ∷ cells) (inl refl) in
          let stays = edit_keeps table db next [] ((Int id ∷ cells) ∷ []) was step r h in
          absurd (never_there r h (one r (Int id ∷ cells) stays here (key_shared table key [] [] r (Int id ∷ cells) has begins)))
      | inr hasnt ↦ hasnt
    ]

    was_free : option_map (drop 1) (find (has_key table key) (db tree)) ≡ None
    was_free = ap (option_map (drop 1)) (finds_none (has_key table key) (db tree) none_had)

  pub put_where_free : IsPutting key rest in_schema text terms → (old new : State) (count : ℕ) → HasSchema old.now → Executes text cells old new (Ok count) → row_at table key old.now ≡ None
  put_where_free it old new count has h =
      let ran = runs_as text cells old new room_schema has.schema_is command it.command it.is_plain count h in
      let statement = statement_of text (understood room_schema text) in
      let does : Does old.step_limit (mode_of old) cells (record { schema = room_schema; trees = old.now.trees }) statement None command (Ok (ran.tally, new.now)) =
      subst (λ s. Does old.step_limit (mode_of old) cells (record old.now { schema = s }) statement None command (Ok (ran.tally, new.now))) has.schema_is ran.changed in
      let done = went (rw in_schema.place at does) in
      let db = old.now.trees in
      let id = next_rowid (db tree) in
      let sourced = went done.1 in
      let written = went (went sourced.2).2 in
      let recast : cast_row table (Null ∷ cells) ≡ Null ∷ cells = ap (λ v. v ∷ cast_all columns cells) cast_null ∙ ap (λ vs. Null ∷ vs) (all_kept columns cells it.kept) in
      let first = subst (λ rs. Writes room_schema Enforced db (edit_of db table [] Chosen 0 rs) (Ok written.0)) (sourced.1.1 ∙ it.rows) written.1 in
      let step : Writes room_schema Enforced db (edit id) (Ok written.0) =
      subst (λ row. Writes room_schema Enforced db (record { table = table; gone = []; news = with_rowid Chosen (db tree) row ∷ [] }) (Ok written.0)) recast first in
      let numbered = numbered_in table in_schema.listed old.now has in
      let wrote = edit_wrote table db written.0 [] ((Int id ∷ cells) ∷ []) numbered step in
      let after_once = once_in table in_schema.listed in_schema.guarded written.0 wrote.fits wrote.numbered in
      was_free db written.0 id numbered step after_once ((in_schema.numberless (Int id) cells (Null ∷ key)).1 ∙ it.begins)
