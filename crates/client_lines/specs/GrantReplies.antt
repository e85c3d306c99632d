-- Rule: What answers a file of grants, what is printed of it, and what it comes to (all this
-- project's own).
use Rattle.std.specs.Prelude.{All, ◌≡◌, ℕ, ◌+◌, List, [], ◌∷◌, ◌++◌, codes, decimal, map, Some}
use Rattle.std.specs.List.{flat_map}
use Rattle.std.specs.Io.KnownBytes.{Appends, Consumes}
use Rattle.input_fields.specs.declared.grant_line.GrantLine.{GrantLine}
use Rattle.input_fields.specs.declared.grant_line.GrantLine.TheVariants.{Good, Bad}
use Rattle.client_lines.specs.declared.answer.Answer.{Answer}
use Rattle.client_lines.specs.declared.answer.Answer.TheVariants.{Refused}
use Rattle.client_lines.specs.declared.outcome.Outcome.{Outcome}
use Rattle.client_lines.specs.Answers.{answer_said}
use Rattle.client_lines.specs.Outcomes.{nothing_sent, outcome_after}
use Rattle.input_fields.specs.GrantFiles.{records_of}
use Rattle.input_fields.specs.GrantLines.{grant_lines}
use Rattle.client_lines.specs.Replies.{Known}

-- a record, the line that answered it, and what that says
pub record Granted : Type 0 where
  pub asked : GrantLine
  pub line : List ℕ
  pub says : Answer

-- a bad record is not answered, and counts as refused
abbrev pub AnswersLine : GrantLine → (line : List ℕ) → Answer → Type 0
AnswersLine (Good account month pages) line says = answer_said line ≡ Some says
AnswersLine (Bad number) line says = says ≡ Refused

abbrev pub IsGranted : Granted → Type 0
IsGranted granted = AnswersLine granted.asked granted.line granted.says

abbrev pub line_heard : GrantLine → (line : List ℕ) → List ℕ
line_heard (Good account month pages) line = line ++ codes "\n"
line_heard (Bad number) line = []

-- the number of a record, and its answer or `bad`
abbrev pub line_printed : (number : ℕ) → GrantLine → (line : List ℕ) → List ℕ
line_printed number (Good account month pages) line =
    (decimal number ++ codes " ") ++ (line ++ codes "\n")
line_printed number (Bad bad) line = decimal number ++ codes " bad\n"

-- the answers, as they come
abbrev pub granted_heard : Granted → List ℕ
granted_heard granted = line_heard granted.asked granted.line

-- the records from this number on
abbrev pub granted_printed : (number : ℕ) → List Granted → List ℕ
granted_printed number [] = []
granted_printed number (first ∷ rest) =
    line_printed number first.asked first.line ++ granted_printed (number + 1) rest

abbrev pub granted_outcome : (number : ℕ) → Outcome → List Granted → Outcome
granted_outcome number outcome [] = outcome
granted_outcome number outcome (first ∷ rest) =
    granted_outcome (number + 1) (outcome_after outcome number first.says) rest

-- the answers to the records were heard one after another and printed, and came to the outcome
pub record GrantsAnswered (records : List GrantLine) (heard_before heard_after : Known)
    (printed_before printed_after : Known) (outcome : Outcome) : Type 0 where
  pub all : List Granted
  pub asked : map (λ granted. granted.asked) all ≡ records
  pub said : All IsGranted all
  pub heard : Consumes heard_before heard_after (flat_map granted_heard all)
  pub printed : Appends printed_before printed_after (granted_printed 1 all)
  pub came_to : outcome ≡ granted_outcome 1 nothing_sent all

-- the answers to the records of a file that was left were heard and printed, and came to the
-- outcome
abbrev pub FileAnswered : (left : List ℕ → Type 0) (heard_before heard_after : Known)
    → (printed_before printed_after : Known) → Outcome → Type 0
FileAnswered left heard_before heard_after printed_before printed_after outcome =
    (file : List ℕ) × left file × GrantsAnswered (grant_lines (records_of file))
    heard_before heard_after printed_before printed_after outcome
