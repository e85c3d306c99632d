use Rattle.std.proofs.Common.{refl, arith}
use Rattle.sqlite.specs.State.{HasCleanDisk}
use Rattle.sqlite.specs.Held.{state}
use Rattle.rows_tables.proofs.Savepoints.{inside_then, then_changed}
use Rattle.rows_statements.proofs.job_changes.add_without_document.Goals as goal

pub returns-clause-adds : goal.returns-clause-adds
returns-clause-adds g c clean =
    let mid = state g.S.Store c.add_job.new.savepoint.conn.now in
    let was_clean : HasCleanDisk mid = omega (arith, c.advance_next_job.ensures.inside.survives.clean, clean) in
    then_changed c.advance_next_job.result _ _
    (λ counts has.
    let job = c.in_ok-add_job.ensures.sets was_clean has in
    let next = counts job.0 in
    (next.0, record { with_job = mid.now; with_document = mid.now; job_row = job.1; was_free = c.in_ok-add_job.ensures.free was_clean has; document_row = refl; account_row = next.1 }))
    (c.advance_next_job.ensures.counts clean)

pub returns-clause-inside : goal.returns-clause-inside
returns-clause-inside g c = inside_then _ _ _ _ _ c.in_ok-add_job.ensures.inside c.advance_next_job.ensures.inside
