-- What the statement leaves that makes the version 2.
use Rattle.std.proofs.Common.{◌≡◌, ◌≢◌, Bool, true, false, cond, ◌&&◌, ℤ, pos, ℕ, List, [], ◌∷◌, map, filter, find, option_map, drop, codes, None, arith, refl, sym, ap, subst, ◌∙◌, Ok, is_eq, Equal}
use Rattle.std.specs.List.{AllByRecursion}
use Rattle.std.proofs.Math.Bool.{and-true}
use Rattle.std.proofs.lemmas.List.Sorted.{IsPermutation-sym}
use Rattle.sqlite_tied.specs.Compute.{everything}
use Rattle.sqlite_value.specs.declared.value.Value.{Value}
use Rattle.sqlite_value.specs.declared.value.Value.TheVariants.{Null, Int, Real, Text, Blob}
use Rattle.sqlite_value.specs.declared.keys.Collation.TheVariants.{Binary}
use Rattle.sqlite_value.specs.Order.{Row, value_cmp}
use Rattle.sqlite_value.proofs.OrderLemmas.{value_cmp_total}
use Rattle.sqlite_trees.specs.Tree.{Trees, rowid}
use Rattle.sqlite_trees.specs.View.{IsShaped}
use Rattle.sqlite_trees.specs.declared.store.Shape.TheVariants as shape
use Rattle.sqlite_sql.specs.Ops.{binary, unary}
use Rattle.sqlite_sql.specs.Term.{Term, lit, col}
use Rattle.sqlite_schema.specs.declared.program.Program.{Program}
use Rattle.sqlite_schema.specs.declared.schema.Kind.TheVariants.{Integer}
use Rattle.sqlite_schema.specs.declared.schema.Keys.TheVariants.{Enforced}
use Rattle.sqlite_schema.specs.declared.command.Command.TheVariants.{Update}
use Rattle.sqlite_schema.specs.Rules.{equal}
use Rattle.sqlite_rules.specs.Cast.{cast, cast_row}
use Rattle.sqlite_rules.specs.Lists.{Has}
use Rattle.sqlite_rules.specs.Calls.{ids_of}
use Rattle.sqlite_rules.specs.Edit.{edit_of, without_all}
use Rattle.sqlite_rules.specs.declared.error.Rowids.TheVariants.{Given}
use Rattle.sqlite_rules.proofs.ListLemmas.{has_kept}
use Rattle.sqlite_rules.proofs.PlaceLemmas.{given}
use Rattle.sqlite_rules.proofs.ProbeLemmas.{mapped_has}
use Rattle.sqlite_rules.proofs.TableLemmas.{put_all_adds}
use Rattle.sqlite.specs.Effect.{Database}
use Rattle.sqlite.specs.Does.{Does, Tally}
use Rattle.sqlite.specs.Rows.{Written}
use Rattle.sqlite.specs.Listing.{understood}
use Rattle.sqlite.specs.State.{State, Executes, mode_of}
use Rattle.sqlite.proofs.Callers.{IsPlain, command_of, statement_of, runs_as, one_step}
use Rattle.rows_tables.specs.Places.{meta_tree, row_number}
use Rattle.rows_tables.specs.Tables.{room_schema, meta, account, job, document, grants, device, rates}
use Rattle.rows_tables.specs.Cells.{units_cells}
use Rattle.rows_tables.specs.Keyed.{has_key}
use Rattle.rows_tables.specs.Queries.{of_table, passes, shows_of}
use Rattle.rows_tables.specs.Making.{version_tests, HasVersion}
use Rattle.rows_tables.specs.Migrating.{AddsRates, IsFirstVersion, IsMigrated, NotesVersionTwo, RatesDevices}
use Rattle.rows_tables.proofs.Edits.{edit_wrote, tie_of}
use Rattle.rows_tables.proofs.Statements.{only_changes}
use Rattle.rows_tables.proofs.Queries.{answer_is, permuted_has}
use Rattle.rows_tables.proofs.StatementParts.{went, same_value, cast_integer, equal_ties}

abbrev pub two_text : List ℕ
two_text = codes "UPDATE meta SET version = 2 WHERE id = 1"

-- the number of the row that is there, and the whole new row
abbrev pub two_shows : List Term
two_shows = col 1 row_number ∷ col 1 row_number ∷ lit Null ∷ lit (Int (pos 2)) ∷ []

abbrev pub to_two : Program
to_two = record { lets = []; body = of_table meta_tree version_tests two_shows [] }

pub two_is : command_of (understood room_schema two_text) ≡ Update 0 to_two
unfolding understood everything
two_is = refl

pub two_plain : IsPlain (understood room_schema two_text)
unfolding understood everything
two_plain = (refl, refl)

-- ---- the number of the row stays equal to 1

-- a float that is a whole number is kept as that integer
by_test : (tied low : Bool) (v : Value) (n : ℤ) → tied ≡ is_eq (value_cmp (Int n) v) → equal Binary v (Int (pos 1)) ≡ true → equal Binary (cond (tied && low) (Int n) v) (Int (pos 1)) ≡ true
unfolding binary
by_test true true v n is same = let tie = value_cmp_total.congr (Int n) v (Int (pos 1)) (tie_of _ (sym is)) ∙ equal_ties v (Int (pos 1)) same in rw tie refl
by_test true false v n is same = same
by_test false low v n is same = same

-- no other value is equal to a number
never_text : (t : List ℕ) → value_cmp (Text t) (Int (pos 1)) ≡ Equal → ⊥
unfolding value_cmp
never_text t h = let e = h in cc

never_blob : (b : List ℕ) → value_cmp (Blob b) (Int (pos 1)) ≡ Equal → ⊥
unfolding value_cmp
never_blob b h = let e = h in cc

still_one : (v : Value) → equal Binary v (Int (pos 1)) ≡ true → equal Binary (cast Integer v) (Int (pos 1)) ≡ true
unfolding binary unary
still_one Null same = absurd (let e = same in cc)
still_one (Int n) same = subst (λ v. equal Binary v (Int (pos 1)) ≡ true) (sym (cast_integer n)) same
still_one (Real x) same = by_test _ _ (Real x) _ refl same
still_one (Text t) same = absurd (never_text t (equal_ties (Text t) (Int (pos 1)) same))
still_one (Blob b) same = absurd (never_blob b (equal_ties (Blob b) (Int (pos 1)) same))

-- ---- the statement

abbrev new_row : Row → Row
new_row row = cast_row meta (drop 1 (shows_of two_shows [] row))

pub notes_two : (old new : State) (count : ℕ) → Executes two_text [] old new (Ok count) → old.now.schema ≡ room_schema → HasVersion old.now (pos 1) → NotesVersionTwo old.now new.now
notes_two old new count h was version =
    let db = old.now.trees in
    let command = Update 0 to_two in
    let ran = runs_as two_text [] old new room_schema was command two_is two_plain count h in
    let statement = statement_of two_text (understood room_schema two_text) in
    let does = went (subst (λ s. Does old.step_limit (mode_of old) [] (record old.now { schema = s }) statement None command (Ok (ran.tally, new.now))) was ran.changed) in
    let now : new.now ≡ record { schema = room_schema; trees = does.0.trees } = ap (λ (p : Tally × Database). p.1) (same_value (went (went does.2).2).2) in
    let asked = went does.1 in
    let wrote = went asked.2 in
    let trees : new.now.trees ≡ wrote.0 = ap (λ (d : Database). d.trees) now ∙ ap (λ (it : Written). it.trees) (same_value wrote.2) in
    let edit = edit_of db meta (ids_of asked.0) Given 1 asked.0 in
    let step = one_step room_schema Enforced db wrote.0 edit refl wrote.1 in
    let shown = answer_is meta_tree version_tests two_shows [] db [] asked.0 (asked.1.answer Null) in
    let row = version.0 in
    let passed : passes version_tests [] row ≡ true = and-true _ ∙ version.1.1 in
    let found : Has asked.0 (shows_of two_shows [] row) = permuted_has asked.0 (map (shows_of two_shows []) (filter (passes version_tests []) (db meta_tree))) (shows_of two_shows [] row) (IsPermutation-sym _ _ shown)
    (mapped_has (shows_of two_shows []) (filter (passes version_tests []) (db meta_tree)) row (has_kept (passes version_tests []) (db meta_tree) row version.1.0 passed)) in
    let put : Has edit.news (new_row row) = subst (λ rows. Has rows (new_row row)) (sym (given _ _)) (mapped_has (λ s. cast_row meta (drop 1 s)) asked.0 (shows_of two_shows [] row) found) in
    let there : Has (wrote.0 0) (new_row row) = subst (λ rows. Has rows (new_row row)) (sym step.rows) (put_all_adds edit.news (without_all (db meta_tree) (ids_of asked.0)) (new_row row) step.fresh put) in
    record {
      schema_is = ap (λ (d : Database). d.schema) now;
      is_database = ran.sound;
      kept = only_changes meta old.now new.now (subst (λ (f : Trees). AllByRecursion (λ t. t.tree ≢ 0 → f t.tree ≡ db t.tree) room_schema.tables) (sym trees) step.tables);
      version_two = (new_row row, (subst (λ (f : Trees). Has (f 0) (new_row row)) (sym trees) there, still_one (rowid row) version.1.1), cast_integer (pos 2));
      numbered = λ was. subst (λ (f : Trees). IsShaped shape.Table (f 0)) (sym trees) (edit_wrote meta db wrote.0 (ids_of asked.0) edit.news was wrote.1).numbered;
    }

-- ---- the whole migration

pub becomes_two : (old made rated new : Database) → IsFirstVersion old → AddsRates room_schema old made → RatesDevices made rated → (HasVersion rated (pos 1) → NotesVersionTwo rated new) → IsMigrated old new
becomes_two old made rated new first adds rates_them noting =
    let in_meta : rated.trees meta.tree ≡ old.trees meta.tree = rates_them.kept.meta (λ e. omega (arith, e)) ∙ adds.kept.0 in
    let row = first.version_one in
    let notes = noting (row.0, (subst (λ rows. Has rows row.0) (sym in_meta) row.1.0, row.1.1), row.2) in
    let in_account : new.trees account.tree ≡ old.trees account.tree = notes.kept.account (λ e. omega (arith, e)) ∙ rates_them.kept.account (λ e. omega (arith, e)) ∙ adds.kept.1.0 in
    let in_job : new.trees job.tree ≡ old.trees job.tree = notes.kept.job (λ e. omega (arith, e)) ∙ rates_them.kept.job (λ e. omega (arith, e)) ∙ adds.kept.1.1.0 in
    let in_document : new.trees document.tree ≡ old.trees document.tree = notes.kept.document (λ e. omega (arith, e)) ∙ rates_them.kept.document (λ e. omega (arith, e)) ∙ adds.kept.1.1.1.0 in
    let in_grants : new.trees grants.tree ≡ old.trees grants.tree = notes.kept.grants (λ e. omega (arith, e)) ∙ rates_them.kept.grants (λ e. omega (arith, e)) ∙ adds.kept.1.1.1.1.0 in
    let in_device : new.trees device.tree ≡ old.trees device.tree = notes.kept.device (λ e. omega (arith, e)) ∙ rates_them.kept.device (λ e. omega (arith, e)) ∙ adds.kept.1.1.1.1.1.0 in
    let in_rates = notes.kept.rates (λ e. omega (arith, e)) in
    let of_device = notes.kept.device (λ e. omega (arith, e)) in
    record {
      was_first = first;
      schema_is = notes.schema_is;
      version_two = notes.version_two;
      kept = (λ other. absurd (other refl), (λ _. in_account, (λ _. in_job, (λ _. in_document, (λ _. in_grants, (λ _. in_device, tt))))));
      rated = λ name.
          ap (λ rows. option_map (drop 1) (find (has_key rates (Text name ∷ [])) rows)) in_rates
          ∙ rates_them.rated name
          ∙ sym (ap (λ rows. option_map (λ row. units_cells name 1) (option_map (drop 1) (find (has_key device (Text name ∷ [])) rows))) of_device);
      is_database = notes.is_database;
      numbered = λ was. (
        notes.numbered (subst (IsShaped shape.Table) (sym in_meta) was.0),
        (
          subst (IsShaped shape.Table) (sym in_account) was.1.0,
          (
            subst (IsShaped shape.Table) (sym in_job) was.1.1.0,
            (
              subst (IsShaped shape.Table) (sym in_document) was.1.1.1.0,
              (
                subst (IsShaped shape.Table) (sym in_grants) was.1.1.1.1.0,
                (
                  subst (IsShaped shape.Table) (sym in_device) was.1.1.1.1.1.0,
                  (subst (IsShaped shape.Table) (sym in_rates) rates_them.numbered, tt),
                ),
              ),
            ),
          ),
        ),
      );
    }
