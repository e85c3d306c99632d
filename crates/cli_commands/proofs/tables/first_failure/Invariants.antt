use Rattle.std.proofs.Common.{◌≡◌, drop}
use Rattle.cli_commands.specs.Outcomes.{first_failure}
use Rattle.cli_commands.proofs.tables.first_failure.Given as goal

abbrev pub invariant-loop-outcome : goal.invariant-loop-outcome
invariant-loop-outcome l = first_failure (drop l.outcome-index l.outcomes) ≡ first_failure l.outcomes
