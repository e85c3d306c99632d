use Rattle.std.proofs.Common.{◌≡◌, ◌++◌, map, take}
use Rattle.serve_log.specs.LogLines.{printable_byte}
use Rattle.serve_log.proofs.outcome.put_shown.Given as goal

-- what was put so far
abbrev pub invariant-loop-byte : goal.invariant-loop-byte
invariant-loop-byte l = l.output.items ≡ l.fn.output.items ++ map printable_byte (take l.byte-index l.text)
