use Rattle.std.proofs.Common.{◌≤◌, sym, subst, arith}
use Rattle.std.proofs.lemmas.Result.{err_from_is_err_and}
use Rattle.sqlite.specs.Effect.{Database}
use Rattle.sqlite.specs.Held.{state}
use Rattle.sqlite.specs.State.{HasCleanDisk}
use Rattle.rows_tables.specs.Keyed.{HasSchema}
use Rattle.store_copy.specs.ProofParts.{CopiesMore, HasGrants}
use Rattle.store_copy.proofs.AtMost.{fewer_still}
use Rattle.store_copy.proofs.PartlyCopied.{goes_further, is_ended}
use Rattle.store_copy.proofs.SavepointKept.{kept_answered_as, kept_refused_as, kept_then}
use Rattle.store_copy.proofs.accounts.go_on.Goals as goal

pub returns-then-further-next-clause-copies : goal.returns-then-further-next-clause-copies
returns-then-further-next-clause-copies g c clean has =
    let made = c.in_ok-further.ensures.copies clean has in
    (made.0, λ source_clean source_has. goes_further c.args.account _ c.args.next c.args.job c.in_ok-further.further _ _ (made.1 source_clean source_has))

pub returns-clause-copies : goal.returns-clause-copies
returns-clause-copies g c clean has =
    let name = c.args.account in
    let source = (state g.S.Store c.args.source.now).now in
    let before = (state g.T.Store c.args.savepoint.now.conn.now).now in
    let mid = state g.T.Store c.copy_jobs.new.savepoint.conn.now in
    let after = (state g.T.Store c.copy_grants.new.savepoint.conn.now).now in
    let mid_clean : HasCleanDisk mid = omega (arith, c.in_ok-copy_grants.ensures.inside.survives.clean, clean) in
    let made = c.in_ok-further.ensures.copies mid_clean has in
    let more = c.in_ok-copy_grants.ensures.copies clean made.0 in
    let enough : c.args.next ≤ c.in_ok-further.further = omega (arith, c.if-further-next.false) in (
      more.0,
      λ source_clean source_has.
          let found_clean : HasCleanDisk (state g.S.Store c.copy_jobs.new.source) = omega (arith, c.in_ok-copy_grants.ensures.reads.keeps.clean, source_clean) in
          let same = (c.in_ok-further.ensures.source.same found_clean source_has).now in
          let two : CopiesMore name HasGrants source mid.now after = subst (λ (db : Database). CopiesMore name HasGrants db mid.now after) same (more.1 source_clean (subst HasSchema (sym same) source_has)) in
          is_ended name source c.args.next c.args.job c.in_ok-further.further before mid.now (made.1 found_clean source_has) after enough two,
    )

pub returns-clause-at_most : goal.returns-clause-at_most
returns-clause-at_most g c = fewer_still c.args.most c.args.job c.in_ok-further.further c.args.next (omega (arith, c.if-further-next.false)) c.in_ok-further.ensures.at_most

pub returns-clause-inside : goal.returns-clause-inside
returns-clause-inside g c = kept_answered_as _ _ tt _ (kept_then c.args.savepoint.now c.copy_jobs.new.savepoint c.copy_grants.new.savepoint _ _ c.in_ok-further.ensures.inside c.in_ok-copy_grants.ensures.inside)

pub returns-in_err-copy_grants-clause-inside : goal.returns-in_err-copy_grants-clause-inside
returns-in_err-copy_grants-clause-inside g c =
    let told = err_from_is_err_and c.from_residual-in_err-copy_grants.result c.from_residual-in_err-copy_grants.ensures.1 in
    kept_refused_as _ _ c.in_err-copy_grants.field-0.0 _ _ told.1 (kept_then c.args.savepoint.now c.copy_jobs.new.savepoint c.copy_grants.new.savepoint _ _ c.in_ok-further.ensures.inside c.in_err-copy_grants.ensures.inside)
