use Rattle.std.proofs.Common.{◌≤◌, vec_len}
use Rattle.std.specs.Io.KnownBytes.{Consumes}
use Rattle.client_lines.specs.Sending.{longest_line}
use Rattle.client_lines.specs.ProofTaking.{HasNoFeed}
use Rattle.client_lines.proofs.line.take_line.Given as goal

abbrev pub invariant-loop : goal.invariant-loop
invariant-loop g l = (vec_len l.line ≤ longest_line) × HasNoFeed l.line.items
    × Consumes (g.R.Read.remaining l.initial.reader) (g.R.Read.remaining l.reader) l.line.items
