use Rattle.std.proofs.Common.{map}
use Rattle.serve_desk.specs.ProofLines.{HasValues}
use Rattle.serve_desk.proofs.line.line_of.Given as goal

-- the line has the values so far
abbrev pub invariant-loop-field : goal.invariant-loop-field
invariant-loop-field l = HasValues l.line.items l.is_first (map (λ field. field.now) l.yielded)
