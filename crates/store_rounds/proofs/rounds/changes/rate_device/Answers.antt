use Rattle.store_rounds.proofs.KeptLemmas.{devices_changed}
use Rattle.store_rounds.proofs.rounds.changes.rate_device.Goals as goal

pub invariant_of-connection : goal.invariant_of-connection
invariant_of-connection g c ours =
    devices_changed g.S.Store c.connection.inside.connection c.rate_device-made.new.connection _ _ _
    c.note_committed.ensures
    (c.connection.invariant ours) c.rate_device-made.result (λ a b made. made.alone) c.rate_device-made.ensures.rates c.forget_after_fault.ensures
