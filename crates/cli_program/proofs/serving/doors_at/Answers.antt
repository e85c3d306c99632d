use Rattle.cli_program.proofs.DoorLemmas.{one_opened}
use Rattle.cli_program.proofs.serving.doors_at.Goals as goal

pub loop-door-preserved : goal.loop-door-preserved
loop-door-preserved c = one_opened c.args.asked.now c.loop-door.door-index _ c.loop-door.doors.items c.push.new.self.items c.new.result c.in_ok-kind.kind c.loop-door-test.true c.loop-door.invariant c.in_ok-kind.ensures c.new.ensures c.in_ok-push.ensures.items
