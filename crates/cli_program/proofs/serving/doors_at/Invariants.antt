use Rattle.std.proofs.Common.{map, take}
use Rattle.serve_sockets.specs.Doors.{speech_of}
use Rattle.cli_program.specs.SpokenDoors.{AreSpoken}
use Rattle.cli_program.proofs.serving.doors_at.Given as goal

abbrev pub invariant-loop-door : goal.invariant-loop-door
invariant-loop-door l = AreSpoken (take l.door-index l.asked) (map speech_of l.doors.items)
