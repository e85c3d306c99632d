use Rattle.std.proofs.Common.{◌≡◌, ◌+◌, ◌∙◌, Ok, Err, sym, ap, subst, arith}
use Rattle.std.proofs.lemmas.Result.{err_from_is_err_and}
use Rattle.sqlite.specs.Effect.{Database}
use Rattle.sqlite.specs.State.{HasCleanDisk}
use Rattle.sqlite.specs.Held.{state}
use Rattle.rows_tables.specs.Keyed.{HasSchema}
use Rattle.rows_tables.specs.declared.fault.TableFault.TheVariants.{Damaged}
use Rattle.rows_tables.proofs.KeyedRows.{same_fault}
use Rattle.rows_checks.specs.Checks.{IsDocumentThere}
use Rattle.rows_checks.proofs.CheckedJobs.{documents_there, more_there}
use Rattle.rows_statements.proofs.ReadsAgain.{reads_again}
use Rattle.rows_checks.proofs.jobs.check_job.Goals as goal

pub returns-in_err-check_there-clause-damaged : goal.returns-in_err-check_there-clause-damaged
returns-in_err-check_there-clause-damaged g c clean has is_damaged room held next =
    let db = (state g.R.S.Store (g.R.Reads.held c.args.connection.now)).now in
    let told = err_from_is_err_and c.from_residual-in_err-check_there.result c.from_residual-in_err-check_there.ensures.1 in
    let fault : c.in_err-check_there.field-0.0 ≡ Damaged = sym told.2 ∙ same_fault (sym told.1 ∙ is_damaged) in
    let before : HasCleanDisk (state g.R.S.Store (g.R.Reads.held c.loop-before.connection)) = omega (arith, c.in_err-check_there.ensures.reads.keeps.clean, clean) in
    let same = (c.loop-before.invariant.0.same before has).now in
    let found = c.in_ok-documents.ensures.found (c.loop-before.invariant.2 before) has in
    let there = documents_there db c.args.account c.args.next_job c.args.number c.in_ok-documents.documents found room held (c.loop-before.before + 1) (omega arith) (omega (arith, c.loop-before-test.true)) in
    c.in_err-check_there.ensures.damaged clean (subst HasSchema (sym same) has) (ap Err fault)
    (subst (λ (d : Database). IsDocumentThere d c.args.account c.args.number (c.loop-before.before + 1)) (sym same) there)

pub loop-before-preserved : goal.loop-before-preserved
loop-before-preserved g c =
    let db = (state g.R.S.Store (g.R.Reads.held c.args.connection.now)).now in
    let before : HasCleanDisk (state g.R.S.Store (g.R.Reads.held c.check_there.new.connection)) → HasCleanDisk (state g.R.S.Store (g.R.Reads.held c.loop-before.connection)) = λ clean. omega (arith, c.in_ok-check_there.ensures.reads.keeps.clean, clean) in (
      reads_again g.R.S.Store (g.R.Reads.held c.args.connection.now) (g.R.Reads.held c.loop-before.connection) (g.R.Reads.held c.check_there.new.connection) tt (Ok tt) c.loop-before.invariant.0 c.in_ok-check_there.ensures.reads,
      λ clean has.
          let same = (c.loop-before.invariant.0.same (before clean) has).now in
          more_there db c.args.account c.args.number c.loop-before.before (c.loop-before.invariant.1 (before clean) has)
          (subst (λ (d : Database). IsDocumentThere d c.args.account c.args.number (c.loop-before.before + 1)) same (c.in_ok-check_there.ensures.there clean (subst HasSchema (sym same) has))),
      λ clean. c.loop-before.invariant.2 (before clean),
    )
