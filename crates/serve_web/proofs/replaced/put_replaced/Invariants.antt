use Rattle.std.proofs.Common.{◌≡◌, ◌++◌, map, take}
use Rattle.serve_web.specs.Parts.{replaced}
use Rattle.serve_web.proofs.replaced.put_replaced.Given as goal

-- what was put so far
abbrev pub invariant-loop-byte : goal.invariant-loop-byte
invariant-loop-byte l = l.output.items ≡ l.fn.output.items ++ map (replaced l.from l.to) (take l.byte-index l.text)
