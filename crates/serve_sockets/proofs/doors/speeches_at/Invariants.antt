use Rattle.std.proofs.Common.{◌≡◌, map, take}
use Rattle.serve_sockets.specs.Doors.{speech_of}
use Rattle.serve_sockets.proofs.doors.speeches_at.Given as goal

abbrev pub invariant-loop-entrance : goal.invariant-loop-entrance
invariant-loop-entrance l = l.speeches.items ≡ map speech_of (take l.entrance-index l.doors)
