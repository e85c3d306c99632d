use Rattle.std.proofs.Common.{List, ℕ}
use Rattle.std.specs.Io.KnownBytes.{Consumes}
use Rattle.serve_peers.proofs.step.drain.Given as goal

abbrev pub invariant-loop : goal.invariant-loop
invariant-loop g l = (came : List ℕ) × Consumes (g.R.Read.remaining l.fn.reader) (g.R.Read.remaining l.reader) came
