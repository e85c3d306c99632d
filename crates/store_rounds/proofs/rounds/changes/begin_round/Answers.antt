use Rattle.sqlite.specs.Held.{state}
use Rattle.store_rounds.proofs.KeptLemmas.{begun_kept}
use Rattle.store_rounds.proofs.rounds.changes.begin_round.Goals as goal

pub invariant_of-connection : goal.invariant_of-connection
invariant_of-connection g c ours =
    let told = c.begin_round-made.ensures in
    begun_kept (state g.S.Store c.connection.inside.connection) (state g.S.Store c.begin_round-made.new.connection) _ _ told.survives.clean
    c.note_committed.ensures
    (c.connection.invariant ours) c.begin_round-made.result told.begins told.unchanged told.connection c.forget_after_fault.ensures
