use Rattle.std.proofs.Common.{◌≡◌, ◌≤◌, map, sum, take}
use Rattle.serve_sockets.specs.Doors.{most_of}
use Rattle.serve_sockets.specs.declared.doors.TheConstants.{MOST_GUESTS}
use Rattle.serve_sockets.proofs.doors.most_guests.Given as goal

abbrev pub invariant-loop-entrance : goal.invariant-loop-entrance
invariant-loop-entrance l = (l.most ≡ sum (map most_of (take l.entrance-index l.doors))) × (l.most ≤ MOST_GUESTS)
