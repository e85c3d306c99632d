-- What the statements leave that make the tables.
use Rattle.std.proofs.Common.{◌≡◌, ◌≢◌, arith, suc, ℕ, pos, List, [], ◌∷◌, drop, find, Option, option_map, IfSome, None, Ok, refl, sym, ap, subst, ◌∙◌, inl, inr}
use Rattle.std.proofs.lemmas.Bool.{cases_eq}
use Rattle.std.specs.FinMap.{get-empty}
use Rattle.account_rules.specs.declared.device.Device.{Device}
use Rattle.account_rules.specs.Devices.{name_cmp}
use Rattle.sqlite_value.specs.declared.value.Value.TheVariants.{Int, Text}
use Rattle.sqlite_value.specs.Order.{Row}
use Rattle.sqlite_trees.specs.Tree.{Trees}
use Rattle.sqlite_trees.specs.View.{IsShaped}
use Rattle.sqlite_trees.specs.declared.store.Shape.TheVariants as shape
use Rattle.sqlite_schema.specs.declared.schema.Schema.{Schema}
use Rattle.sqlite_schema.specs.declared.schema.Table.{Table}
use Rattle.sqlite_schema.specs.declared.schema.Keys.TheVariants.{Enforced}
use Rattle.sqlite_schema.specs.declared.command.Command.TheVariants.{CreateTable, Insert}
use Rattle.sqlite_schema.specs.declared.command.Source.TheVariants.{Values}
use Rattle.sqlite_rules.specs.Lists.{Has}
use Rattle.sqlite_rules.specs.Edit.{edit_of, edited}
use Rattle.sqlite_rules.specs.declared.error.Rowids.TheVariants.{Chosen}
use Rattle.sqlite_rules.proofs.ListLemmas.{all_has, all_from, has_either}
use Rattle.sqlite_catalog.specs.Change.{created, next_tree, KeepsRows}
use Rattle.sqlite.specs.Effect.{Database}
use Rattle.sqlite.specs.Does.{Does, Tally, lacks_sequence}
use Rattle.sqlite.specs.Rows.{Written}
use Rattle.sqlite.specs.Listing.{understood}
use Rattle.sqlite.specs.State.{State, Writes, Executes, mode_of}
use Rattle.sqlite.proofs.Callers.{statement_of, runs_as, one_step}
use Rattle.rows_tables.specs.Places.{meta_tree}
use Rattle.rows_tables.specs.Tables.{room_schema, meta, account, job, document, grants, device, rates}
use Rattle.rows_tables.specs.Keyed.{has_key, row_at}
use Rattle.rows_tables.specs.Making.{IsBlank, IsNew, version_row}
use Rattle.rows_tables.specs.Cells.{device_cells, rate_cells}
use Rattle.rows_tables.specs.Devices.{IsDevice}
use Rattle.rows_tables.proofs.MakingTexts.{MakesIfHonest, version_text, version_terms, version_is, version_plain}
use Rattle.rows_tables.proofs.StatementParts.{went, same_value, cast_integer, cast_null, integer_equal}

-- the table is there, with no row, and each other is as it was
pub record AddsTable (schema : Schema) (table : Table) (old new : Database) : Type 0 where
  pub schema_is : new.schema ≡ created schema table
  pub no_row : new.trees (next_tree schema) ≡ []
  pub kept : KeepsRows schema.tables old.trees new.trees

pub adds : (schema : Schema) (text : List ℕ) (table : Table) → MakesIfHonest schema text table → (old new : State) (count : ℕ) → Executes text [] old new (Ok count)
    → old.now.schema ≡ schema → AddsTable schema table old.now new.now
adds schema text table makes old new count h was =
    let ran = subst (λ t. Writes old new None CreateTable t [] count) makes.whole (runs_as text [] old new schema was CreateTable makes.command makes.is_plain count h) in
    let defined = went ran.changed in
    let first = went defined.1 in
    let made = first.1 in
    let both : ◌≡◌ (Ok made.table) (Ok (record table { tree = 0 })) = sym made.defined ∙ makes.defines in
    let schema_is : first.0.schema ≡ created schema table = made.is ∙ ap (λ s. created s made.table) was ∙ ap (created schema) (same_value both) in
    let now : new.now ≡ first.0 = ap (λ (p : Tally × Database). p.1) (same_value defined.2) ∙ same_value (rw (ap lacks_sequence schema_is ∙ makes.counts_nothing) at first.2) in
    subst (AddsTable schema table old.now) (sym now) (record {
      schema_is = schema_is;
      no_row = subst (λ s. first.0.trees (next_tree s) ≡ []) was made.empty;
      kept = subst (λ s. KeepsRows s.tables old.now.trees first.0.trees) was made.others;
    })

pub creates : (schema : Schema) (text : List ℕ) (table : Table) → MakesIfHonest schema text table → (old new : State) (count : ℕ) → Executes text [] old new (Ok count)
    → IsBlank schema old.now → IsBlank (created schema table) new.now
creates schema text table makes old new count h blank =
    let it = adds schema text table makes old new count h blank.0 in (
      it.schema_is,
      all_from (λ t. new.now.trees t.tree ≡ []) (created schema table).tables (λ t listed. elim (has_either schema.tables _ t listed) [
        | inl earlier ↦ all_has (λ u. new.now.trees u.tree ≡ old.now.trees u.tree) schema.tables t it.kept earlier ∙ all_has (λ u. old.now.trees u.tree ≡ []) schema.tables t blank.1 earlier
        | inr last ↦ elim last [ inl is ↦ ap (λ (u : Table). new.now.trees u.tree) is ∙ it.no_row | inr none ↦ absurd none ]
      ]),
    )

-- ---- the row of the version

apart : (m : ℕ) → suc m ≢ 0
apart m e = omega (arith, e)

nothing_at : (table : Table) (key : Row) (db : Database) → db.trees table.tree ≡ [] → row_at table key db ≡ None
nothing_at table key db none = ap (λ rows. option_map (drop 1) (find (has_key table key) rows)) none

pub numbers_version : (old new : State) (count : ℕ) → Executes version_text [] old new (Ok count) → IsBlank room_schema old.now → IsNew new.now
numbers_version old new count h blank =
    let db = old.now.trees in
    let none : db 0 ≡ [] = all_has (λ u. db u.tree ≡ []) room_schema.tables meta blank.1 (inl refl) in
    let command = Insert 0 (Values version_terms 3) in
    let ran = runs_as version_text [] old new room_schema blank.0 command version_is version_plain count h in
    let statement = statement_of version_text (understood room_schema version_text) in
    let does = went (subst (λ s. Does old.step_limit (mode_of old) [] (record old.now { schema = s }) statement None command (Ok (ran.tally, new.now))) blank.0 ran.changed) in
    let now : new.now ≡ record { schema = room_schema; trees = does.0.trees } = ap (λ (p : Tally × Database). p.1) (same_value (went (went does.2).2).2) in
    let sourced = went does.1 in
    let written = went (went sourced.2).2 in
    let counted = went written.2 in
    let trees : new.now.trees ≡ written.0 = ap (λ (d : Database). d.trees) now ∙ ap (λ (it : Written). it.trees) (same_value counted.2) ∙ same_value counted.1 in
    let step = one_step room_schema Enforced db written.0 (edit_of db meta [] Chosen 0 sourced.0) refl written.1 in
    let edit : edited db (edit_of db meta [] Chosen 0 sourced.0) ≡ version_row (pos 2) ∷ [] = ap (λ all. edited db (edit_of db meta [] Chosen 0 all)) sourced.1.1 ∙ rw (none, cast_null, cast_integer (pos 1), cast_integer (pos 2)) refl in
    let rows : new.now.trees meta_tree ≡ version_row (pos 2) ∷ [] = ap (λ (t : Trees). t 0) trees ∙ step.rows ∙ edit in
    let others : (t : Table) → Has room_schema.tables t → t.tree ≢ 0 → new.now.trees t.tree ≡ [] = λ t listed other.
    ap (λ (f : Trees). f t.tree) trees ∙ all_has (λ u. u.tree ≢ 0 → written.0 u.tree ≡ db u.tree) room_schema.tables t step.tables listed other ∙ all_has (λ u. db u.tree ≡ []) room_schema.tables t blank.1 listed in
    record {
      has_schema = record {
        schema_is = ap (λ (d : Database). d.schema) now;
        is_database = ran.sound;
        numbered = all_from (λ t. IsShaped shape.Table (new.now.trees t.tree)) room_schema.tables (λ t listed. elim (cases_eq t.tree 0) [
          | inl is ↦ subst (λ n. IsShaped shape.Table (new.now.trees n)) (sym is) (subst (IsShaped shape.Table) (sym rows) ((tt, tt), (refl, tt)))
          | inr other ↦ subst (IsShaped shape.Table) (sym (others t listed other)) (tt, tt)
        ]);
      };
      one_version = rows;
      version_two = (version_row (pos 2), (subst (λ all. Has all (version_row (pos 2))) (sym rows) (inl refl), integer_equal (pos 1)), refl);
      no_row = all_from (λ t. t.tree ≢ 0 → new.now.trees t.tree ≡ []) room_schema.tables others;
      no_account = λ name. record {
        no_account = nothing_at account (Text name ∷ []) new.now (others account (inr (inl refl)) (apart 0));
        no_job = λ number. nothing_at job (Text name ∷ Int number ∷ []) new.now (others job (inr (inr (inl refl))) (apart 2));
        no_document = λ of number. nothing_at document (Text name ∷ Int of ∷ Int number ∷ []) new.now (others document (inr (inr (inr (inl refl)))) (apart 4));
        no_grant = λ month. nothing_at grants (Text name ∷ Int month ∷ []) new.now (others grants (inr (inr (inr (inr (inl refl))))) (apart 6));
      };
      no_device = record {
        are_devices = λ name. subst (λ (device : Option Device). IfSome device (IsDevice name)) (sym (get-empty name_cmp name)) tt;
        device_rows = λ name. nothing_at device (Text name ∷ []) new.now (others device (inr (inr (inr (inr (inr (inl refl)))))) (apart 8)) ∙ sym (ap (option_map device_cells) (get-empty name_cmp name));
        rate_rows = λ name. nothing_at rates (Text name ∷ []) new.now (others rates (inr (inr (inr (inr (inr (inr (inl refl))))))) (apart 10)) ∙ sym (ap (option_map rate_cells) (get-empty name_cmp name));
      };
    }
