-- The statements on the table `document`: what they leave.
use Rattle.std.proofs.Common.{◌≡◌, ℕ, Bool, true, false, cond, List, [], ◌∷◌, drop, codes, Option, None, option_map, Ok, refl, ap, subst, ◌∙◌}
use Rattle.sqlite_tied.specs.Compute.{everything}
use Rattle.sqlite_value.specs.declared.value.Value.TheVariants.{Null, Text, Blob}
use Rattle.sqlite_value.specs.Order.{Row}
use Rattle.sqlite_value.specs.Keys.{plain}
use Rattle.sqlite_trees.specs.Tree.{Trees}
use Rattle.sqlite_sql.specs.Term.{Term, lit, col}
use Rattle.sqlite_schema.specs.Rules.{agree}
use Rattle.sqlite.specs.Effect.{Database}
use Rattle.sqlite.specs.Does.{Does, Tally}
use Rattle.sqlite.specs.Listing.{understood}
use Rattle.sqlite.specs.State.{State, mode_of, Executes}
use Rattle.sqlite.proofs.Callers.{statement_of, runs_as}
use Rattle.account_rules.specs.declared.job.Document.{Document}
use Rattle.account_rules.specs.Formats.{media_type}
use Rattle.rows_tables.specs.Places.{document_tree, job_places}
use Rattle.rows_tables.specs.Tables.{room_schema, document}
use Rattle.rows_tables.specs.Keyed.{HasSchema, RemovesRows}
use Rattle.rows_tables.specs.Queries.{passes}
use Rattle.rows_tables.specs.Cells.{number, document_cells}
use Rattle.rows_tables.proofs.Finds.{removed, found_at}
use Rattle.rows_statements.proofs.DocumentRemoval.{remove_text, remove_tests, remove_command, remove_is, remove_plain, meant_by, meant}
use Rattle.rows_tables.proofs.KeyedTables.{document_in}
use Rattle.rows_tables.proofs.Inserts.{IsPutting}
use Rattle.rows_tables.proofs.KeyedRows.{has_values}
use Rattle.rows_tables.proofs.Settings.{AllKept}
use Rattle.rows_tables.proofs.StatementParts.{went, same_value, cast_integer}
use Rattle.rows_tables.proofs.Removals.{deleted}
use Rattle.rows_tables.proofs.Statements.{numbered_in, once_in, keeps_schema}

pub removes_documents : (name : List ℕ) (job : ℕ) (old new : State) (count : ℕ) → HasSchema old.now → Executes remove_text (meant_by name job) old new (Ok count)
    → RemovesRows document (meant_by name job) job_places old.now new.now × HasSchema new.now
removes_documents name job old new count has h =
    let params = meant_by name job in
    let ran = runs_as remove_text params old new room_schema has.schema_is remove_command remove_is remove_plain count h in
    let statement = statement_of remove_text (understood room_schema remove_text) in
    let done = went (subst (λ s. Does old.step_limit (mode_of old) params (record old.now { schema = s }) statement None remove_command (Ok (ran.tally, new.now))) has.schema_is ran.changed) in
    let now : new.now ≡ record { schema = room_schema; trees = done.0.trees } = ap (λ (p : Tally × Database). p.1) (same_value (went (went done.2).2).2) in
    let db = old.now.trees in
    let wrote = deleted old.step_limit params document remove_tests db done.0 (numbered_in document document_in.listed old.now has) done.1 in
    let left = keeps_schema document old.now new.now done.0.trees has ran.sound now wrote.1 in
    let after = once_in document document_in.listed document_in.guarded done.0.trees wrote.1.fits wrote.1.numbered in
    let trees : new.now.trees ≡ done.0.trees = ap (λ (d : Database). d.trees) now in (
      record {
        rows = λ key.
            let concerns = agree plain job_places (Null ∷ key) job_places (Null ∷ meant_by name job) in
            ap (λ (t : Trees). option_map (drop 1) (found_at document key (t 5))) trees
            ∙ ap (option_map (drop 1)) (removed document key (db document_tree) (done.0.trees document_tree) (passes remove_tests params) wrote.0 after concerns (meant name job key))
            ∙ by_case concerns (found_at document key (db document_tree));
        rest = left.1;
      },
      left.0,
    )
  where
    by_case : (concerns : Bool) (was : Option Row) → option_map (drop 1) (cond concerns None was) ≡ cond concerns None (option_map (drop 1) was)
    by_case true was = refl
    by_case false was = refl

-- ---- a new one

abbrev pub add_text : List ℕ
add_text = codes "INSERT INTO document (account, job, number, format, bytes) VALUES (?1, ?2, ?3, ?4, ?5)"

abbrev pub add_terms : List Term
add_terms = lit Null ∷ col 0 0 ∷ col 0 1 ∷ col 0 2 ∷ col 0 3 ∷ col 0 4 ∷ []

-- its columns keep the cells of a document
document_kept : (name : List ℕ) (it : Document) → AllKept document.columns (document_cells name it)
unfolding everything
document_kept name it = (refl, (cast_integer _, (cast_integer _, (refl, (refl, tt)))))

pub puts_document : (name : List ℕ) (it : Document) → IsPutting (Text name ∷ number it.job ∷ number it.number ∷ []) (Text (media_type it.format) ∷ Blob it.bytes ∷ []) document_in add_text add_terms
unfolding understood everything
puts_document name it = record {
  command = refl;
  is_plain = (refl, refl);
  rows = refl;
  kept = document_kept name it;
  begins = has_values (Text name ∷ number it.job ∷ number it.number ∷ []) (Null ∷ document_cells name it) (refl, (refl, (refl, tt))) (refl, (refl, (refl, tt)));
}
