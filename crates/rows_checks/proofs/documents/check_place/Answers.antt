use Rattle.std.proofs.Common.{◌≡◌, ◌∙◌, pos, sym, ap, subst, option_map, Result, Ok, Err, arith}
use Rattle.std.proofs.lemmas.Result.{err_from_is_err_and}
use Rattle.sqlite.specs.Effect.{Database}
use Rattle.sqlite.specs.State.{HasCleanDisk}
use Rattle.sqlite.specs.Held.{state}
use Rattle.account_state.specs.RoomRules.{IsDocumentAt}
use Rattle.rows_tables.specs.Accounts.{document_at}
use Rattle.rows_tables.specs.Cells.{document_cells}
use Rattle.rows_tables.specs.Keyed.{HasSchema}
use Rattle.rows_tables.specs.declared.fault.TableFault.{TableFault}
use Rattle.rows_tables.specs.declared.fault.TableFault.TheVariants.{Damaged}
use Rattle.rows_tables.proofs.KeyedRows.{same_fault}
use Rattle.rows_checks.specs.Checks.{HasDocument}
use Rattle.rows_statements.specs.SoundRows.{IsRowOf}
use Rattle.rows_checks.proofs.CheckedDocuments.{not_sound_if, one_read}
use Rattle.rows_checks.proofs.documents.check_place.Goals.{in-Some, in-None}
use Rattle.rows_checks.proofs.documents.check_place.Goals as goal

-- what is answered is no damage
answered : (r : Result (Unit {0}) TableFault) → r ≡ Ok tt → r ≡ Err Damaged → ⊥
answered r is is_damaged = let e = sym is ∙ is_damaged in cc

pub returns-in_err-find_document-clause-damaged : goal.returns-in_err-find_document-clause-damaged
returns-in_err-find_document-clause-damaged g c clean has is_damaged sound =
    let db = (state g.R.S.Store (g.R.Reads.held c.args.connection.now)).now in
    let told = err_from_is_err_and c.from_residual-in_err-find_document.result c.from_residual-in_err-find_document.ensures.1 in
    let fault : c.in_err-find_document.field-0.0 ≡ Damaged = sym told.2 ∙ same_fault (sym told.1 ∙ is_damaged) in
    let before : HasCleanDisk (state g.R.S.Store (g.R.Reads.held c.has_job_with.new.connection)) = omega (arith, c.in_err-find_document.ensures.reads.keeps.clean, clean) in
    let same = (c.in_ok-has_job_with.ensures.reads.same before has).now in
    c.in_err-find_document.ensures.damaged clean (subst HasSchema (sym same) has) (ap Err fault)
    (subst (λ (d : Database). IsRowOf (document_cells c.args.account) (IsDocumentAt (c.args.job, c.args.document)) (document_at d c.args.account (pos c.args.job) (pos c.args.document))) (sym same) (one_read db c.args.account c.args.job c.args.document sound))

pub returns-clause-damaged : goal.returns-clause-damaged
returns-clause-damaged g c clean has is_damaged sound =
    let db = (state g.R.S.Store (g.R.Reads.held c.args.connection.now)).now in
    let before : HasCleanDisk (state g.R.S.Store (g.R.Reads.held c.has_job_with.new.connection)) = omega (arith, c.in_ok-find_document.ensures.reads.keeps.clean, clean) in
    let same = (c.in_ok-has_job_with.ensures.reads.same before has).now in
    let has_not = subst (HasDocument db c.args.account c.args.job c.args.document) c.if-branch.false (c.in_ok-has_job_with.ensures.there before has) in
    let found = subst (λ (d : Database). document_at d c.args.account (pos c.args.job) (pos c.args.document) ≡ option_map (document_cells c.args.account) c.in_ok-find_document.field-0) same (c.in_ok-find_document.ensures.found clean (subst HasSchema (sym same) has)) in
    elim c.match-branch-3.branch [
      | in-Some w ↦ not_sound_if db c.args.account c.args.job c.args.document c.in_ok-find_document.field-0 has_not found (λ none. let e = sym w.in-Some.is ∙ none in cc) sound
      | in-None w ↦ answered _ w.result-is is_damaged
    ]
