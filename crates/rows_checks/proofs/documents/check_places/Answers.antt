use Rattle.std.proofs.Common.{◌≡◌, ℕ, ◌∙◌, [], ◌∷◌, take, get_or, Ok, Err, sym, ap, subst, arith}
use Rattle.std.specs.List.{AllByRecursion}
use Rattle.std.proofs.lemmas.List.{take_all, take_more}
use Rattle.std.proofs.lemmas.Result.{err_from_is_err_and}
use Rattle.sqlite_trees.proofs.ListLemmas.{all-append}
use Rattle.sqlite.specs.Effect.{Database}
use Rattle.sqlite.specs.State.{HasCleanDisk}
use Rattle.sqlite.specs.Held.{state}
use Rattle.rows_tables.specs.Keyed.{HasSchema}
use Rattle.rows_tables.specs.declared.fault.TableFault.TheVariants.{Damaged}
use Rattle.rows_tables.proofs.KeyedRows.{same_fault}
use Rattle.rows_checks.specs.Checks.{DocumentIsInOrder}
use Rattle.rows_checks.proofs.KeyRefusals.{places_told}
use Rattle.rows_checks.proofs.KeysInOrder.{documents_in_order}
use Rattle.rows_statements.proofs.ReadsAgain.{reads_again}
use Rattle.rows_checks.proofs.documents.check_places.Goals as goal

pub returns-in_err-walk_places-clause-damaged : goal.returns-in_err-walk_places-clause-damaged
returns-in_err-walk_places-clause-damaged g c clean has is_damaged sound =
    let db = (state g.R.S.Store (g.R.Reads.held c.args.connection.now)).now in
    let told = err_from_is_err_and c.from_residual.result c.from_residual.ensures.1 in
    let fault : c.in_err-walk_places.field-0.0 ≡ Damaged = sym told.2 ∙ same_fault (sym told.1 ∙ is_damaged) in
    places_told db has c.args.account sound _ ((c.in_err-walk_places.ensures.walks clean has).damaged (ap Err fault))

pub loop-job-preserved : goal.loop-job-preserved
loop-job-preserved g c =
    let db = (state g.R.S.Store (g.R.Reads.held c.args.connection.now)).now in
    let before : HasCleanDisk (state g.R.S.Store (g.R.Reads.held c.check_place.new.connection)) → HasCleanDisk (state g.R.S.Store (g.R.Reads.held c.loop-job.connection)) = λ clean. omega (arith, c.in_ok-check_place.ensures.reads.keeps.clean, clean) in
    let all = c.as_slice-job-items.result.now in
    let item = get_or all c.loop-job.job-index (0, 0) in (
      reads_again g.R.S.Store (g.R.Reads.held c.args.connection.now) (g.R.Reads.held c.loop-job.connection) (g.R.Reads.held c.check_place.new.connection) tt (Ok tt) c.loop-job.invariant.0 c.in_ok-check_place.ensures.reads,
      λ clean has.
          let same = (c.loop-job.invariant.0.same (before clean) has).now in
          subst (AllByRecursion (λ (place : ℕ × ℕ). DocumentIsInOrder db c.args.account place.0 place.1)) (sym (take_more all c.loop-job.job-index (0, 0) c.loop-job-test.true))
          (all-append (λ (place : ℕ × ℕ). DocumentIsInOrder db c.args.account place.0 place.1) (take c.loop-job.job-index all) (item ∷ []) (c.loop-job.invariant.1 (before clean) has)
          (subst (λ (d : Database). (λ (place : ℕ × ℕ). DocumentIsInOrder d c.args.account place.0 place.1) item) same (c.in_ok-check_place.ensures.in_order clean (subst HasSchema (sym same) has)), tt)),
      λ clean. c.loop-job.invariant.2 (before clean),
    )

pub returns-clause-in_order : goal.returns-clause-in_order
returns-clause-in_order g c clean has =
    let db = (state g.R.S.Store (g.R.Reads.held c.args.connection.now)).now in
    let all = c.as_slice-job-items.result.now in
    let told = take_all c.loop-job.job-index all c.loop-job-test.false ∙ c.as_slice-job-items.ensures in
    documents_in_order db has c.args.account _ c.walk_places.new.gathered ((c.in_ok-walk_places.ensures.walks (c.loop-job.invariant.2 clean) has).all)
    (subst (AllByRecursion (λ (place : ℕ × ℕ). DocumentIsInOrder db c.args.account place.0 place.1)) told (c.loop-job.invariant.1 clean has))
