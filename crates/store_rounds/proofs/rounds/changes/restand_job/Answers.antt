use Rattle.std.proofs.Common.{◌≡◌, ℕ, pos, Some, subst}
use Rattle.sqlite.specs.Held.{state}
use Rattle.rows_statements.specs.JobSums.{MovesCount, MovesSum, charges, counts, reserves}
use Rattle.store_rounds.specs.declared.kept.Added.{Added}
use Rattle.store_rounds.proofs.KeptLemmas.{job_changed, found_seen}
use Rattle.rows_tables.specs.Accounts.{job_at}
use Rattle.rows_tables.specs.Cells.{job_cells}
use Rattle.store_rounds.proofs.rounds.changes.restand_job.Goals as goal

pub invariant_of-connection : goal.invariant_of-connection
invariant_of-connection g c ours =
    let old = state g.S.Store c.connection.inside.connection in
    let new = state g.S.Store c.restand_job-made.new.connection in
    job_changed g.S.Store c.connection.inside.connection c.restand_job-made.new.connection _ _ _
    c.note_committed.ensures
    (c.connection.invariant ours) c.args.account c.added_before-was.result c.args.standing.now c.restand_job-made.result
    (λ added is kept made.
    let seen = found_seen old.now c.args.account c.args.number c.connection.inside.kept.job c.added_before-was.result added is c.added_before-was.ensures kept.job in
    let there : job_at old.now c.args.account (pos c.args.number) ≡ Some (job_cells c.args.account seen.0) = subst (λ (n : ℕ). job_at old.now c.args.account (pos n) ≡ Some (job_cells c.args.account seen.0)) seen.1 seen.3 in (
      made.alone seen.0 there,
      made.account seen.0 there,
      subst (λ (a : Added). MovesSum reserves c.args.account a.reserved c.args.standing.now.reserved old.now new.now) seen.2 (made.reserved seen.0 seen.1 there),
      subst (λ (a : Added). MovesSum charges c.args.account a.charged c.args.standing.now.charged old.now new.now) seen.2 (made.charged seen.0 seen.1 there),
      subst (λ (a : Added). MovesCount c.args.account a.unfinished (counts c.args.standing.now) old.now new.now) seen.2 (made.counted seen.0 seen.1 there),
    ))
    c.restand_job-made.ensures.restands c.follow_move.ensures
