use Rattle.std.proofs.Common.{◌≡◌, ◌∙◌, [], ◌∷◌, take, get_or, Ok, Err, sym, ap, subst, arith}
use Rattle.std.specs.List.{AllByRecursion}
use Rattle.std.proofs.lemmas.List.{take_all, take_more}
use Rattle.std.proofs.lemmas.Result.{err_from_is_err_and}
use Rattle.sqlite_trees.proofs.ListLemmas.{all-append}
use Rattle.sqlite.specs.Effect.{Database}
use Rattle.sqlite.specs.State.{HasCleanDisk}
use Rattle.sqlite.specs.Held.{state}
use Rattle.rows_tables.specs.Keyed.{HasSchema}
use Rattle.rows_tables.specs.declared.fault.TableFault.TheVariants.{Damaged}
use Rattle.rows_tables.proofs.KeyedRows.{same_fault}
use Rattle.rows_checks.specs.Checks.{JobIsInOrder}
use Rattle.rows_checks.proofs.KeyRefusals.{jobs_told}
use Rattle.rows_checks.proofs.KeysInOrder.{jobs_in_order}
use Rattle.rows_statements.proofs.ReadsAgain.{reads_again}
use Rattle.rows_checks.proofs.jobs.check_jobs.Goals as goal

pub returns-in_err-walk_jobs-clause-damaged : goal.returns-in_err-walk_jobs-clause-damaged
returns-in_err-walk_jobs-clause-damaged g c clean has is_damaged room held next =
    let db = (state g.R.S.Store (g.R.Reads.held c.args.connection.now)).now in
    let told = err_from_is_err_and c.from_residual.result c.from_residual.ensures.1 in
    let fault : c.in_err-walk_jobs.field-0.0 ≡ Damaged = sym told.2 ∙ same_fault (sym told.1 ∙ is_damaged) in
    jobs_told db has c.args.account room held _ ((c.in_err-walk_jobs.ensures.walks clean has).damaged (ap Err fault))

pub loop-number-preserved : goal.loop-number-preserved
loop-number-preserved g c =
    let db = (state g.R.S.Store (g.R.Reads.held c.args.connection.now)).now in
    let before : HasCleanDisk (state g.R.S.Store (g.R.Reads.held c.check_job.new.connection)) → HasCleanDisk (state g.R.S.Store (g.R.Reads.held c.loop-number.connection)) = λ clean. omega (arith, c.in_ok-check_job.ensures.reads.keeps.clean, clean) in
    let all = c.as_slice-number-items.result.now in
    let item = get_or all c.loop-number.number-index 0 in (
      reads_again g.R.S.Store (g.R.Reads.held c.args.connection.now) (g.R.Reads.held c.loop-number.connection) (g.R.Reads.held c.check_job.new.connection) tt (Ok tt) c.loop-number.invariant.0 c.in_ok-check_job.ensures.reads,
      λ clean has.
          let same = (c.loop-number.invariant.0.same (before clean) has).now in
          subst (AllByRecursion (JobIsInOrder db c.args.account c.args.next_job)) (sym (take_more all c.loop-number.number-index 0 c.loop-number-test.true))
          (all-append (JobIsInOrder db c.args.account c.args.next_job) (take c.loop-number.number-index all) (item ∷ []) (c.loop-number.invariant.1 (before clean) has)
          (subst (λ (d : Database). (JobIsInOrder d c.args.account c.args.next_job) item) same (c.in_ok-check_job.ensures.in_order clean (subst HasSchema (sym same) has)), tt)),
      λ clean. c.loop-number.invariant.2 (before clean),
    )

pub returns-clause-in_order : goal.returns-clause-in_order
returns-clause-in_order g c clean has =
    let db = (state g.R.S.Store (g.R.Reads.held c.args.connection.now)).now in
    let all = c.as_slice-number-items.result.now in
    let told = take_all c.loop-number.number-index all c.loop-number-test.false ∙ c.as_slice-number-items.ensures in
    jobs_in_order db has c.args.account c.args.next_job _ c.walk_jobs.new.gathered ((c.in_ok-walk_jobs.ensures.walks (c.loop-number.invariant.2 clean) has).all)
    (subst (AllByRecursion (JobIsInOrder db c.args.account c.args.next_job)) told (c.loop-number.invariant.1 clean has))
