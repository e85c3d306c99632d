use Rattle.std.proofs.Common.{◌+◌, ◌-◌, ◌≤◌, sym, subst, arith, ◌≡◌, ◌∙◌, Err, ap, rules}
use Rattle.std.proofs.lemmas.Result.{err_from_is_err_and}
use Rattle.sqlite.specs.Effect.{Database}
use Rattle.sqlite.specs.Held.{state}
use Rattle.sqlite.specs.State.{HasCleanDisk}
use Rattle.rows_tables.specs.Keyed.{HasSchema}
use Rattle.store_copy.specs.ProofParts.{CopiesMore, HasWholeJob}
use Rattle.store_copy.proofs.AtMost.{fewer_still, one_more, space_at_first, still_space}
use Rattle.store_copy.proofs.PartlyCopied.{adds_none, adds_one, adds_fewer}
use Rattle.store_copy.proofs.ReadsKept.{leaves_answered, leaves_itself, leaves_then, of_read}
use Rattle.store_copy.proofs.SavepointKept.{kept_answered_as, kept_itself, kept_refused_as, kept_then}
use Rattle.rows_tables.specs.declared.fault.TableFault.TheVariants.{Damaged}
use Rattle.rows_tables.proofs.KeyedRows.{same_fault}
use Rattle.rows_statements.specs.SoundRows.{AccountsRead}
use Rattle.store_copy.proofs.jobs.copy_jobs.Goals as goal

pub loop-number-init : goal.loop-number-init
loop-number-init g c = (
  leaves_itself g.S.Store c.args.source.now tt,
  kept_itself tt c.args.savepoint.now,
  λ clean has. (has, λ source_clean source_has. adds_none c.args.account _ c.args.first _),
  space_at_first c.args.most c.args.first,
)

pub returns-in_err-has_documents-clause-inside : goal.returns-in_err-has_documents-clause-inside
returns-in_err-has_documents-clause-inside g c =
    let told = err_from_is_err_and c.from_residual.result c.from_residual.ensures.1 in
    kept_refused_as _ _ c.in_err-has_documents.field-0.0 _ _ told.1 (kept_then c.args.savepoint.now c.loop-number.savepoint c.copy_job.new.savepoint _ _ c.loop-number.invariant.1 c.in_err-has_documents.ensures.inside)

pub loop-number-preserved : goal.loop-number-preserved
loop-number-preserved g c =
    let name = c.args.account in
    let k = c.loop-number.number in
    let source = (state g.S.Store c.args.source.now).now in
    let before = (state g.T.Store c.args.savepoint.now.conn.now).now in
    let mid = state g.T.Store c.loop-number.savepoint.conn.now in
    let after = (state g.T.Store c.copy_job.new.savepoint.conn.now).now in (
      leaves_answered g.S.Store _ _ _ tt (leaves_then g.S.Store c.args.source.now c.loop-number.source c.copy_job.new.source tt _ c.loop-number.invariant.0 (of_read _ _ _ _ c.in_ok-has_documents.ensures.reads)),
      kept_answered_as _ _ _ tt (kept_then c.args.savepoint.now c.loop-number.savepoint c.copy_job.new.savepoint _ _ c.loop-number.invariant.1 c.in_ok-has_documents.ensures.inside),
      λ clean has.
          let mid_clean : HasCleanDisk mid = omega (arith, c.in_ok-has_documents.ensures.inside.survives.clean, clean) in
          let so_far = c.loop-number.invariant.2 mid_clean has in
          let more = c.in_ok-has_documents.ensures.copies clean so_far.0 in (
            more.0,
            λ source_clean source_has.
                let found_clean : HasCleanDisk (state g.S.Store c.loop-number.source) = omega (arith, c.in_ok-has_documents.ensures.reads.keeps.clean, source_clean) in
                let same = (c.loop-number.invariant.0.same found_clean source_has).now in
                let two : CopiesMore name (HasWholeJob k) source mid.now after = subst (λ (db : Database). CopiesMore name (HasWholeJob k) db mid.now after) same (more.1 source_clean (subst HasSchema (sym same) source_has)) in
                adds_one name source c.args.first k before mid.now after (so_far.1 found_clean source_has) two,
          ),
      still_space c.args.most c.args.first (k + 1) (k + 1 - c.args.first) (search rules) (c.is_enough.ensures.enough c.if-is_enough.false),
    )

pub returns-then-is_enough-clause-at_most : goal.returns-then-is_enough-clause-at_most
returns-then-is_enough-clause-at_most g c = one_more c.args.most c.args.first c.loop-number.number c.loop-number.invariant.3

pub returns-clause-at_most : goal.returns-clause-at_most
returns-clause-at_most g c = fewer_still c.args.most c.args.first (c.loop-number.number + 1) c.args.next (omega (arith, c.loop-number-test.false)) (one_more c.args.most c.args.first c.loop-number.number c.loop-number.invariant.3)

pub returns-then-is_enough-clause-copies : goal.returns-then-is_enough-clause-copies
returns-then-is_enough-clause-copies g c clean has =
    let name = c.args.account in
    let k = c.loop-number.number in
    let source = (state g.S.Store c.args.source.now).now in
    let before = (state g.T.Store c.args.savepoint.now.conn.now).now in
    let mid = state g.T.Store c.loop-number.savepoint.conn.now in
    let after = (state g.T.Store c.copy_job.new.savepoint.conn.now).now in
    let mid_clean : HasCleanDisk mid = omega (arith, c.in_ok-has_documents.ensures.inside.survives.clean, clean) in
    let so_far = c.loop-number.invariant.2 mid_clean has in
    let more = c.in_ok-has_documents.ensures.copies clean so_far.0 in (
      more.0,
      λ source_clean source_has.
          let found_clean : HasCleanDisk (state g.S.Store c.loop-number.source) = omega (arith, c.in_ok-has_documents.ensures.reads.keeps.clean, source_clean) in
          let same = (c.loop-number.invariant.0.same found_clean source_has).now in
          let two : CopiesMore name (HasWholeJob k) source mid.now after = subst (λ (db : Database). CopiesMore name (HasWholeJob k) db mid.now after) same (more.1 source_clean (subst HasSchema (sym same) source_has)) in
          adds_one name source c.args.first k before mid.now after (so_far.1 found_clean source_has) two,
    )

pub returns-then-is_enough-clause-inside : goal.returns-then-is_enough-clause-inside
returns-then-is_enough-clause-inside g c = kept_answered_as _ _ _ _ (kept_then c.args.savepoint.now c.loop-number.savepoint c.copy_job.new.savepoint _ _ c.loop-number.invariant.1 c.in_ok-has_documents.ensures.inside)

pub returns-clause-copies : goal.returns-clause-copies
returns-clause-copies g c clean has =
    let k = c.loop-number.number in
    let source = (state g.S.Store c.args.source.now).now in
    let before = (state g.T.Store c.args.savepoint.now.conn.now).now in
    let after = (state g.T.Store c.loop-number.savepoint.conn.now).now in
    let enough : c.args.next ≤ k = omega (arith, c.loop-number-test.false) in
    let so_far = c.loop-number.invariant.2 clean has in (
      so_far.0,
      λ source_clean source_has. adds_fewer c.args.account source c.args.first k c.args.next before after enough (so_far.1 source_clean source_has),
    )

pub returns-in_err-has_documents-clause-damaged : goal.returns-in_err-has_documents-clause-damaged
returns-in_err-has_documents-clause-damaged g c clean has is_damaged read =
    let told = err_from_is_err_and c.from_residual.result c.from_residual.ensures.1 in
    let fault : c.in_err-has_documents.field-0.0 ≡ Damaged = sym told.2 ∙ same_fault (sym told.1 ∙ is_damaged) in
    let before : HasCleanDisk (state g.S.Store c.loop-number.source) = omega (arith, c.in_err-has_documents.ensures.reads.keeps.clean, clean) in
    let same = (c.loop-number.invariant.0.same before has).now in
    c.in_err-has_documents.ensures.damaged clean (subst HasSchema (sym same) has) (ap Err fault) (subst (λ (db : Database). AccountsRead db c.args.account) (sym same) read)
