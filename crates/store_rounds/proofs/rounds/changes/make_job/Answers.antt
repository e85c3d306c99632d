use Rattle.sqlite.specs.Held.{state}
use Rattle.store_rounds.proofs.KeptLemmas.{job_made, row_there}
use Rattle.store_rounds.proofs.rounds.changes.make_job.Goals as goal

pub invariant_of-connection : goal.invariant_of-connection
invariant_of-connection g c ours =
    let old = state g.S.Store c.connection.inside.connection in
    job_made g.S.Store c.connection.inside.connection c.make_job-made.new.connection _ _ _
    c.note_committed.ensures
    (c.connection.invariant ours) c.args.account c.row-was.result c.args.job.now c.make_job-made.result
    (row_there old c.connection.inside.kept c.args.account c.row-was.result c.row-was.ensures.kept)
    (λ row there made. (made.alone row there, made.account row there, made.reserved row there, made.charged row there, made.counted row there))
    c.make_job-made.ensures.makes c.follow_making.ensures
