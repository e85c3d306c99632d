use Rattle.sqlite.specs.Held.{state}
use Rattle.store_rounds.proofs.KeptLemmas.{job_kept}
use Rattle.store_rounds.proofs.rounds.reads.look_up.Goals as goal

pub invariant_of-connection : goal.invariant_of-connection
invariant_of-connection g c ours =
    let told = c.look_up-found.ensures in
    job_kept (state g.S.Store c.connection.inside.connection) (state g.S.Store c.look_up-found.new.connection) _ _ told.looks.connection.keeps
    c.note_committed.ensures
    (c.connection.invariant ours) c.args.account c.args.number c.look_up-found.result told.looks.same told.looks.undone told.is_there told.in_range c.keep_job.ensures
