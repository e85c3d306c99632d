use Rattle.account_state.proofs.RoomLemmas.{empty_room_keeps}
use Rattle.room_core.proofs.room.Room.new.Goals as goal

pub invariant_of-result : goal.invariant_of-result
invariant_of-result c = rw (c.seconds.ensures.value, c.new.ensures.items, c.new-2.ensures.items, c.new-3.ensures.items) (tt, tt, tt, empty_room_keeps c.args.now c.seconds.ensures.range)
