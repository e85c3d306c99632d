use Rattle.std.proofs.Common.{◌≡◌, map}
use Rattle.client_lines.specs.Asking.{HearsLines}
use Rattle.client_lines.proofs.asking.hear_lines.Given as goal

abbrev pub invariant-loop : goal.invariant-loop
invariant-loop g l = HearsLines (g.R.Read.remaining l.initial.peer.reader)
    (g.R.Read.remaining l.peer.reader) l.counter (map (λ line. line.items) l.lines.items)
    × (l.peer.writer ≡ l.initial.peer.writer)
