-- Rule: How it went with all lines that were sent: how many were refused, and which answer was
-- worst (this project's own).
use Rattle.std.specs.Prelude.{ℕ, ◌+◌, Bool, true, false, if◌then◌else◌}
use Rattle.client_lines.specs.declared.answer.Answer.{Answer}
use Rattle.client_lines.specs.declared.answer.Answer.TheVariants as answer_is
use Rattle.client_lines.specs.declared.outcome.Outcome.{Outcome}
use Rattle.client_lines.specs.declared.outcome.Worst.{Worst}
use Rattle.client_lines.specs.declared.outcome.Worst.TheVariants.{Fine, BadLine, Failed}

-- an event that failed comes before any bad line, and the first bad line before the others
abbrev pub worst_after : (worst : Worst) (number : ℕ) (says : Answer) → Worst
worst_after worst number answer_is.Failed = Failed
worst_after Fine number answer_is.BadLine = BadLine number
worst_after (BadLine first) number answer_is.BadLine = BadLine first
worst_after Failed number answer_is.BadLine = Failed
worst_after worst number (answer_is.Documents count) = worst
worst_after worst number (answer_is.Lines count) = worst
worst_after worst number answer_is.Told = worst
worst_after worst number answer_is.Refused = worst

-- the answer is not `ok`, a list or documents
abbrev pub is_refused : Answer → Bool
is_refused answer_is.Failed = true
is_refused answer_is.BadLine = true
is_refused answer_is.Refused = true
is_refused (answer_is.Documents count) = false
is_refused (answer_is.Lines count) = false
is_refused answer_is.Told = false

abbrev pub nothing_sent : Outcome
nothing_sent = record { lines = 0; refused = 0; worst = Fine }

-- once the line of the number is answered too
abbrev pub outcome_after : (outcome : Outcome) (number : ℕ) (says : Answer) → Outcome
outcome_after outcome number says = record {
  lines = number;
  refused = if is_refused says then outcome.refused + 1 else outcome.refused;
  worst = worst_after outcome.worst number says;
}
