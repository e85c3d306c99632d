use Rattle.std.proofs.Common.{take}
use Rattle.std.specs.Io.KnownBytes.{Appends}
use Rattle.std.specs.List.{flat_map}
use Rattle.cli_commands.specs.Outcomes.{outcome_lines}
use Rattle.cli_commands.proofs.printing.print_outcomes.Given as goal

abbrev pub invariant-loop-outcome : goal.invariant-loop-outcome
invariant-loop-outcome g l = Appends (g.W.Write.contents l.initial.output) (g.W.Write.contents l.output) (flat_map outcome_lines (take l.outcome-index l.outcomes))
