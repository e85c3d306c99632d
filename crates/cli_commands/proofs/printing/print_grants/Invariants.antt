use Rattle.std.proofs.Common.{◌≡◌, ◌+◌, ◌++◌, ℕ, List, drop}
use Rattle.std.specs.Io.KnownBytes.{Appends}
use Rattle.cli_commands.specs.Outcomes.{records_text}
use Rattle.cli_commands.proofs.printing.print_grants.Given as goal

abbrev pub invariant-loop-index : goal.invariant-loop-index
invariant-loop-index g l = (printed : List ℕ)
    × Appends (g.W.Write.contents l.initial.output) (g.W.Write.contents l.output) printed
    × (printed ++ records_text (l.index + 1) (drop l.index l.records) l.left ≡ records_text 1 l.records l.outcomes)
