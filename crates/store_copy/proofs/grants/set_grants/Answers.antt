use Rattle.std.proofs.Common.{List, take, get_or, sym, subst, refl, arith}
use Rattle.std.proofs.lemmas.List.{take_more}
use Rattle.std.proofs.lemmas.Result.{err_from_is_err_and}
use Rattle.sqlite.specs.Held.{state}
use Rattle.sqlite.specs.State.{HasCleanDisk}
use Rattle.account_rules.specs.declared.account.Grant.{Grant}
use Rattle.store_copy.specs.ProofRows.{AddsGrants}
use Rattle.store_copy.proofs.PartRows.{grant_added}
use Rattle.store_copy.proofs.SavepointKept.{kept_by_write, kept_itself, kept_then, kept_refused_as, kept_answered_as}
use Rattle.store_copy.proofs.grants.set_grants.Goals as goal

pub loop-grant-init : goal.loop-grant-init
loop-grant-init g c = (kept_itself tt c.args.savepoint.now, λ clean has. (has, refl))

pub returns-in_err-set_grant-clause-inside : goal.returns-in_err-set_grant-clause-inside
returns-in_err-set_grant-clause-inside g c =
    let told = err_from_is_err_and c.from_residual.result c.from_residual.ensures.1 in
    kept_refused_as _ _ c.in_err-set_grant.field-0.0 _ _ told.1 (kept_then _ _ _ _ _ c.loop-grant.invariant.0 (kept_by_write _ _ _ c.in_err-set_grant.ensures.inside))

pub loop-grant-preserved : goal.loop-grant-preserved
loop-grant-preserved g c =
    let all = c.args.grants.now in
    let old = state g.T.Store c.args.savepoint.now.conn.now in
    let mid = state g.T.Store c.loop-grant.savepoint.conn.now in
    let new = state g.T.Store c.set_grant.new.savepoint.conn.now in
    let none : Grant = record { month = 0; pages = 0 } in
    let write = kept_by_write _ _ _ c.in_ok-set_grant.ensures.inside in (
      kept_answered_as _ _ _ tt (kept_then _ _ _ _ _ c.loop-grant.invariant.0 write),
      λ clean has.
          let before : HasCleanDisk mid = omega (arith, write.survives.clean, clean) in
          let so_far = c.loop-grant.invariant.1 before has in
          let set = c.in_ok-set_grant.ensures.sets clean so_far.0 in (
            set.0,
            subst (λ (l : List Grant). AddsGrants c.args.account l old.now new.now) (sym (take_more all c.loop-grant.grant-index none c.loop-grant-test.true))
                (grant_added c.args.account (take c.loop-grant.grant-index all) (get_or all c.loop-grant.grant-index none) old.now mid.now new.now so_far.1 set.1),
          ),
    )
