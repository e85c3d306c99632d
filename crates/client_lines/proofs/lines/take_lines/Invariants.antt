use Rattle.std.proofs.Common.{◌≡◌}
use Rattle.client_lines.specs.ProofAnswering.{TakesLines}
use Rattle.client_lines.proofs.lines.take_lines.Given as goal

abbrev pub invariant-loop : goal.invariant-loop
invariant-loop g l = TakesLines
    (g.R.Read.remaining l.initial.peer.reader) (g.R.Read.remaining l.peer.reader)
    (g.O.Write.contents l.initial.output) (g.O.Write.contents l.output) l.counter
    × (l.peer.writer ≡ l.initial.peer.writer)
