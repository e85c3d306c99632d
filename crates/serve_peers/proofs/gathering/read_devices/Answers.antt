use Rattle.std.proofs.Common.{◌≡◌, false, sym, ◌∙◌}
use Rattle.sqlite.specs.Held.{state}
use Rattle.store_copy.proofs.ReadsKept.{of_read}
use Rattle.serve_peers.proofs.CopySteps.{only_looks}
use Rattle.serve_peers.proofs.GatheringSteps.{devices_told}
use Rattle.serve_peers.proofs.gathering.read_devices.Goals as goal

pub returns-clause-looks : goal.returns-clause-looks
returns-clause-looks g c =
    let alone : (state g.S.Store c.args.rounds.now).in_transaction ≡ false = sym c.is_under_way.ensures.mode ∙ c.if-is_under_way.false in
    only_looks g.S.Store c.args.rounds.now c.list_devices.new.connection c.list_devices.result alone (c.is_under_way.ensures.settled c.if-is_under_way.false) (of_read g.S.Store c.args.rounds.now c.list_devices.new.connection c.list_devices.result c.list_devices.ensures.reads)

pub returns-clause-told : goal.returns-clause-told
returns-clause-told g c = devices_told g.S.Store c.args.rounds.now c.list_devices.new.connection c.list_devices.result c.list_devices.ensures.listed
