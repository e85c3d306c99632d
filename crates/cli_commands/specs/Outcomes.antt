-- Rule: What a run prints of its events, and the fault that it ends with (all this project's own).
use Rattle.std.specs.Prelude.{ℕ, ◌+◌, List, [], ◌∷◌, ◌++◌, codes, decimal, drop, Option, None, Some}
use Rattle.input_fields.specs.declared.grant_line.GrantLine.{GrantLine}
use Rattle.input_fields.specs.declared.grant_line.GrantLine.TheVariants.{Good, Bad}
use Rattle.input_lines.specs.Printed.{answer_lines}
use Rattle.room_serve.specs.Outcomes.{reply_of}
use Rattle.room_serve.specs.declared.outcome.Outcome.{Outcome}
use Rattle.room_serve.specs.declared.outcome.Outcome.TheVariants.{Answered, Failed}
use Rattle.cli_commands.specs.Faults.{event_fault}
use Rattle.cli_words.specs.declared.fault.Fault.{Fault}

-- what was answered, or `failed`
abbrev pub outcome_lines : Outcome → List ℕ
outcome_lines outcome = answer_lines (reply_of outcome)

-- the answer to the grant of the next good record
abbrev pub next_lines : List Outcome → List ℕ
next_lines [] = answer_lines None
next_lines (outcome ∷ outcomes) = outcome_lines outcome

-- a record's number, and what its grant came to, or `bad`
abbrev pub record_text : (number : ℕ) → GrantLine → List Outcome → List ℕ
record_text number (Good account month pages) outcomes =
    decimal number ++ codes " " ++ next_lines outcomes
record_text number (Bad which) outcomes = decimal number ++ codes " bad\n"

-- the outcomes that are left for those behind it
abbrev pub left_by : GrantLine → List Outcome → List Outcome
left_by (Good account month pages) outcomes = drop 1 outcomes
left_by (Bad which) outcomes = outcomes

-- the records from this number on; the good ones have the outcomes, in order
abbrev pub records_text : (number : ℕ) → List GrantLine → List Outcome → List ℕ
records_text number [] outcomes = []
records_text number (it ∷ records) outcomes = record_text number it outcomes
    ++ records_text (number + 1) records (left_by it outcomes)

-- that of the first event that failed
abbrev pub first_failure : List Outcome → Option Fault
first_failure [] = None
first_failure (Answered reply ∷ outcomes) = first_failure outcomes
first_failure (Failed fault ∷ outcomes) = Some (event_fault fault)
