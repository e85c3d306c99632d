use Rattle.store_rounds.proofs.KeptLemmas.{devices_changed}
use Rattle.store_rounds.proofs.rounds.changes.switch_device.Goals as goal

pub invariant_of-connection : goal.invariant_of-connection
invariant_of-connection g c ours =
    devices_changed g.S.Store c.connection.inside.connection c.switch_device-made.new.connection _ _ _
    c.note_committed.ensures
    (c.connection.invariant ours) c.switch_device-made.result (λ a b made. made.alone) c.switch_device-made.ensures.turns c.forget_after_fault.ensures
