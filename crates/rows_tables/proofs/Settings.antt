-- A statement that sets the row of a key: what its text has to mean, and what it leaves.
use Rattle.std.proofs.Common.{◌≡◌, ℕ, ◌/◌, suc, Bool, true, false, cond, List, [], ◌∷◌, ◌++◌, length, drop, Option, Some, None, option_map, Ok, refl, sym, ap, subst, ◌∙◌}
use Rattle.std.proofs.Math.Bool.{and-true}
use Rattle.sqlite_value.specs.declared.value.Value.{Value}
use Rattle.sqlite_value.specs.declared.value.Value.TheVariants.{Null, Int}
use Rattle.sqlite_value.specs.declared.keys.Collation.TheVariants.{Binary}
use Rattle.sqlite_value.specs.Order.{Row, column}
use Rattle.sqlite_trees.specs.Tree.{Trees, rowid}
use Rattle.sqlite_sql.specs.declared.ops.BinaryOp.TheVariants.{Compare}
use Rattle.sqlite_sql.specs.declared.ops.CompareOp.TheVariants.{Eq}
use Rattle.sqlite_sql.specs.Term.{Term, col, op2}
use Rattle.sqlite_schema.specs.declared.schema.Table.{Table}
use Rattle.sqlite_schema.specs.declared.schema.Column.{Column}
use Rattle.sqlite_schema.specs.declared.schema.Kind.TheVariants.{Integer}
use Rattle.sqlite_schema.specs.declared.command.Command.{Command}
use Rattle.sqlite_schema.specs.declared.command.Command.TheVariants.{InsertOr}
use Rattle.sqlite_schema.specs.declared.command.Conflict.TheVariants.{Abort}
use Rattle.sqlite_schema.specs.declared.command.Source.TheVariants.{Values}
use Rattle.sqlite_schema.specs.Rules.{equal}
use Rattle.sqlite_rules.specs.Cast.{cast, cast_all}
use Rattle.sqlite.specs.Effect.{Database, value_rows}
use Rattle.sqlite.specs.Does.{Does, Tally}
use Rattle.sqlite.specs.Rows.{stamped}
use Rattle.sqlite.specs.Listing.{understood}
use Rattle.sqlite.specs.State.{State, mode_of, Executes}
use Rattle.sqlite.proofs.Callers.{IsPlain, command_of, statement_of, runs_as}
use Rattle.rows_tables.specs.Places.{row_number}
use Rattle.rows_tables.specs.Tables.{room_schema, keyed}
use Rattle.rows_tables.specs.Keyed.{HasSchema, SetsRow, has_key}
use Rattle.rows_tables.specs.Queries.{shows_of}
use Rattle.rows_tables.proofs.Columns.{cells_from, AreExact, each_is}
use Rattle.rows_tables.proofs.Finds.{replaced, found_at}
use Rattle.rows_tables.proofs.KeyedRows.{key_begins}
use Rattle.rows_tables.proofs.KeyedTables.{places_from, IsInSchema}
use Rattle.rows_tables.proofs.Statements.{numbered_in, fits_in, once_in, typed_in, keeps_schema}
use Rattle.rows_tables.proofs.StatementParts.{went, same_value, cast_integer, cast_null}
use Rattle.rows_tables.proofs.Upserts.{IsUpsert, upserted, update_clause, update_params, has_same_key}

-- ---- columns that keep their values

abbrev pub AllKept : List Column → Row → Type 0
AllKept [] vs = Unit {0}
AllKept (c ∷ cs) [] = ⊥
AllKept (c ∷ cs) (v ∷ vs) = (cast c.kind v ≡ v) × AllKept cs vs

pub all_kept : (columns : List Column) (vs : Row) → AllKept columns vs → cast_all columns vs ≡ vs
all_kept [] vs kept = refl
all_kept (c ∷ cs) [] kept = absurd kept
all_kept (c ∷ cs) (v ∷ vs) kept = ap (λ w. w ∷ cast_all cs vs) kept.0 ∙ ap (λ ws. v ∷ ws) (all_kept cs vs kept.1)

-- ---- what the text means

-- the row that is there, by its number, which stands after the parameters
abbrev pub by_number : Row → List Term
by_number params = op2 (Compare Eq Binary) (col 1 row_number) (col 0 (length params)) ∷ []

column_after : (front : Row) (v : Value) (back : Row) → column (front ++ v ∷ back) (length front) ≡ v
column_after [] v back = refl
column_after (w ∷ front) v back = column_after front v back

module _ {at : ℕ} {name : List ℕ} {tree : ℕ} {columns : List Column} (key rest : Row) (in_schema : IsInSchema at name tree (length key) columns) (text : List ℕ) (more terms : List Term) where
  abbrev cells : Row
  cells = key ++ rest

  abbrev places : List ℕ
  places = places_from (length key) 1

  abbrev table : Table
  table = keyed name tree places columns

  abbrev width : ℕ
  width = suc (length columns)

  abbrev command_set : Command
  command_set = InsertOr at Abort (Values terms width) (update_clause cells name tree places columns cells (by_number cells) more ∷ [])

  -- the text, whose parameters are the cells, sets the row of the key
  pub record IsSetting : Type 0 where
    pub command : command_of (understood room_schema text) ≡ command_set
    pub is_plain : IsPlain (understood room_schema text)
    -- the new row, and what the row that is there becomes, which keeps its number and its key
    pub rows : value_rows (stamped table cells) width (length terms / width) terms ≡ (Null ∷ cells) ∷ []
    pub becomes : (id there : Value) (r : Row) → drop 1 (shows_of (col 1 row_number ∷ more) (update_params cells name tree places columns cells (by_number cells) more id there) r) ≡ column r 0 ∷ cells_from (length key) 1 r ++ rest
    pub exact : AreExact columns key
    pub kept : AllKept columns cells

  is_upsert : IsSetting → (db : Database) → HasSchema db → IsUpsert cells name tree places columns cells (by_number cells) more db.trees
  is_upsert it db has =
      let kept = all_kept columns cells it.kept in
      record {
        numberless = λ id r. (in_schema.numberless id cells r).0;
        recast = λ id. ap (λ v. v ∷ cast_all columns cells) (cast_integer id) ∙ ap (λ vs. Int id ∷ vs) kept;
        recast_null = ap (λ v. v ∷ cast_all columns cells) cast_null ∙ ap (λ vs. Null ∷ vs) kept;
        conflict = λ id r. in_schema.conflict (id ∷ cells) r;
        asks = λ id there r. and-true _ ∙ ap (equal Binary (rowid r)) (column_after cells there _);
        first = λ id there r. refl;
        updates = λ id there r k same.
            let begins = each_is key 1 r (key_begins columns key rest r it.exact (typed_in table in_schema.listed db has r k) same) in
            ap (λ row. cast Integer (column row 0) ∷ cast_all columns (drop 1 row)) (it.becomes id there r) ∙ ap (λ front. cast Integer (column r 0) ∷ cast_all columns (front ++ rest)) begins ∙ ap (λ vs. cast Integer (column r 0) ∷ vs) kept;
      }

  runs_so : IsSetting → (old new : State) (count : ℕ) → HasSchema old.now → Executes text cells old new (Ok count) → HasSchema new.now × SetsRow table cells old.now new.now
  runs_so it old new count has h =
      let ran = runs_as text cells old new room_schema has.schema_is command_set it.command it.is_plain count h in
      let statement = statement_of text (understood room_schema text) in
      let does : Does old.step_limit (mode_of old) cells (record { schema = room_schema; trees = old.now.trees }) statement None command_set (Ok (ran.tally, new.now)) =
      subst (λ s. Does old.step_limit (mode_of old) cells (record old.now { schema = s }) statement None command_set (Ok (ran.tally, new.now))) has.schema_is ran.changed in
      let done = went (rw in_schema.place at does) in
      let now : new.now ≡ record { schema = room_schema; trees = done.0.trees } = ap (λ (p : Tally × Database). p.1) (same_value (went (went done.2).2).2) in
      let db = old.now.trees in
      let numbered = numbered_in table in_schema.listed old.now has in
      let upsert = is_upsert it old.now has in
      let wrote = upserted cells name tree places columns cells (by_number cells) more old.step_limit db upsert numbered (once_in table in_schema.listed in_schema.guarded db (fits_in old.now has) numbered) terms width done.0 it.rows done.1 in
      let left = keeps_schema table old.now new.now done.0.trees has ran.sound now wrote.2 in
      let after = once_in table in_schema.listed in_schema.guarded done.0.trees wrote.2.fits wrote.2.numbered in
      let trees : new.now.trees ≡ done.0.trees = ap (λ (d : Database). d.trees) now in (
        left.0,
        record {
          rows = λ key.
              ap (λ (t : Trees). option_map (drop 1) (found_at table key (t tree))) trees
              ∙ ap (option_map (drop 1)) (replaced table key (db tree) (done.0.trees tree) (has_same_key cells name tree places columns cells (by_number cells) more) (wrote.0 ∷ cells) (λ x. sym (upsert.numberless wrote.0 x)) wrote.1 after)
              ∙ by_case (has_key table key (wrote.0 ∷ cells)) (has_key table key (Null ∷ cells)) (in_schema.numberless wrote.0 cells (Null ∷ key)).1 (wrote.0 ∷ cells) (found_at table key (db tree));
          rest = left.1;
        },
      )
    where
      by_case : (a b : Bool) → a ≡ b → (new : Row) (was : Option Row) → option_map (drop 1) (cond a (Some new) was) ≡ cond b (Some (drop 1 new)) (option_map (drop 1) was)
      by_case true b same new was = rw (sym same) refl
      by_case false b same new was = rw (sym same) refl

pub sets_row : {at : ℕ} {name : List ℕ} {tree : ℕ} {columns : List Column} {key rest : Row} {in_schema : IsInSchema at name tree (length key) columns} {text : List ℕ} {more terms : List Term}
    → IsSetting key rest in_schema text more terms → (old new : State) (count : ℕ) → HasSchema old.now → Executes text (key ++ rest) old new (Ok count)
    → HasSchema new.now × SetsRow (keyed name tree (places_from (length key) 1) columns) (key ++ rest) old.now new.now
sets_row {key = key} {rest = rest} {in_schema = in_schema} {text = text} {more = more} {terms = terms} it = runs_so key rest in_schema text more terms it
