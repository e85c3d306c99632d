use Rattle.std.proofs.Common.{ap, inl}
use Rattle.slab.specs.Slab.{get}
use Rattle.serve_sockets.proofs.hall.Peers.make_room.Goals as goal

pub returns-then-lack_room : goal.returns-then-lack_room
returns-then-lack_room c = rw c.was_told_all.ensures at c.drop_silent.ensures

pub returns-else-was_told_all : goal.returns-else-was_told_all
returns-else-was_told_all c = λ key. inl (ap (λ guests. get guests key) c.was_told_all.ensures)
