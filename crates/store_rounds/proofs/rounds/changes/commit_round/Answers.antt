use Rattle.sqlite.specs.Held.{state}
use Rattle.store_rounds.proofs.KeptLemmas.{ended_kept}
use Rattle.store_rounds.proofs.rounds.changes.commit_round.Goals as goal

pub invariant_of-connection : goal.invariant_of-connection
invariant_of-connection g c ours =
    let told = c.commit_round-made.ensures in
    ended_kept (state g.S.Store c.connection.inside.connection) (state g.S.Store c.commit_round-made.new.connection) _ _ told.connection
    c.note_committed.ensures
    (c.connection.invariant ours) c.commit_round-made.result told.ends told.refused c.forget_after_fault.ensures
