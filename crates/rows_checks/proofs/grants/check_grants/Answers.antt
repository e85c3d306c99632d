use Rattle.std.proofs.Common.{◌≡◌, ◌∙◌, [], ◌∷◌, take, get_or, Ok, Err, sym, ap, subst, arith}
use Rattle.std.specs.List.{AllByRecursion}
use Rattle.std.proofs.lemmas.List.{take_all, take_more}
use Rattle.std.proofs.lemmas.Result.{err_from_is_err_and}
use Rattle.sqlite_trees.proofs.ListLemmas.{all-append}
use Rattle.sqlite.specs.Effect.{Database}
use Rattle.sqlite.specs.State.{HasCleanDisk}
use Rattle.sqlite.specs.Held.{state}
use Rattle.rows_tables.specs.Keyed.{HasSchema}
use Rattle.rows_tables.specs.declared.fault.TableFault.TheVariants.{Damaged}
use Rattle.rows_tables.proofs.KeyedRows.{same_fault}
use Rattle.rows_checks.specs.Checks.{GrantIsInOrder}
use Rattle.rows_checks.proofs.KeyRefusals.{months_told}
use Rattle.rows_checks.proofs.KeysInOrder.{grants_in_order}
use Rattle.rows_statements.proofs.ReadsAgain.{reads_again}
use Rattle.rows_checks.proofs.grants.check_grants.Goals as goal

pub returns-in_err-walk_months-clause-damaged : goal.returns-in_err-walk_months-clause-damaged
returns-in_err-walk_months-clause-damaged g c clean has is_damaged sound =
    let db = (state g.R.S.Store (g.R.Reads.held c.args.connection.now)).now in
    let told = err_from_is_err_and c.from_residual.result c.from_residual.ensures.1 in
    let fault : c.in_err-walk_months.field-0.0 ≡ Damaged = sym told.2 ∙ same_fault (sym told.1 ∙ is_damaged) in
    months_told db has c.args.account sound _ ((c.in_err-walk_months.ensures.walks clean has).damaged (ap Err fault))

pub loop-month-preserved : goal.loop-month-preserved
loop-month-preserved g c =
    let db = (state g.R.S.Store (g.R.Reads.held c.args.connection.now)).now in
    let before : HasCleanDisk (state g.R.S.Store (g.R.Reads.held c.check_grant.new.connection)) → HasCleanDisk (state g.R.S.Store (g.R.Reads.held c.loop-month.connection)) = λ clean. omega (arith, c.in_ok-check_grant.ensures.reads.keeps.clean, clean) in
    let all = c.as_slice-month-items.result.now in
    let item = get_or all c.loop-month.month-index 0 in (
      reads_again g.R.S.Store (g.R.Reads.held c.args.connection.now) (g.R.Reads.held c.loop-month.connection) (g.R.Reads.held c.check_grant.new.connection) tt (Ok tt) c.loop-month.invariant.0 c.in_ok-check_grant.ensures.reads,
      λ clean has.
          let same = (c.loop-month.invariant.0.same (before clean) has).now in
          subst (AllByRecursion (GrantIsInOrder db c.args.account)) (sym (take_more all c.loop-month.month-index 0 c.loop-month-test.true))
          (all-append (GrantIsInOrder db c.args.account) (take c.loop-month.month-index all) (item ∷ []) (c.loop-month.invariant.1 (before clean) has)
          (subst (λ (d : Database). (GrantIsInOrder d c.args.account) item) same (c.in_ok-check_grant.ensures.in_order clean (subst HasSchema (sym same) has)), tt)),
      λ clean. c.loop-month.invariant.2 (before clean),
    )

pub returns-clause-in_order : goal.returns-clause-in_order
returns-clause-in_order g c clean has =
    let db = (state g.R.S.Store (g.R.Reads.held c.args.connection.now)).now in
    let all = c.as_slice-month-items.result.now in
    let told = take_all c.loop-month.month-index all c.loop-month-test.false ∙ c.as_slice-month-items.ensures in
    grants_in_order db has c.args.account _ c.walk_months.new.gathered ((c.in_ok-walk_months.ensures.walks (c.loop-month.invariant.2 clean) has).all)
    (subst (AllByRecursion (GrantIsInOrder db c.args.account)) told (c.loop-month.invariant.1 clean has))
