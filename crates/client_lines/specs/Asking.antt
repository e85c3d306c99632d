-- Rule: What comes back to the caller that asks one line: one line or a list (all this project's
-- own).
use Rattle.std.specs.Prelude.{All, ◌≡◌, ℕ, List, length, Some}
use Rattle.std.specs.List.{flat_map}
use Rattle.std.specs.Io.KnownBytes.{Consumes}
use Rattle.client_lines.specs.declared.answer.Answer.TheVariants as answer_is
use Rattle.client_lines.specs.Answers.{answer_said}
use Rattle.client_lines.specs.Replies.{IsText, Known, whole_line, whole_lines}

-- so many lines came
pub record HearsLines (before after : Known) (count : ℕ) (lines : List (List ℕ)) : Type 0 where
  pub number : length lines ≡ count
  pub each_text : All IsText lines
  pub whole : Consumes before after (flat_map whole_line lines)

-- a list came: its first line says how many follow, and these do
pub record HearsList (before after : Known) (lines : List (List ℕ)) : Type 0 where
  pub first : List ℕ
  pub says : answer_said first ≡ Some (answer_is.Lines (length lines))
  pub each_text : All IsText lines
  pub whole : Consumes before after (whole_lines first lines)

-- the line tells that it was done
abbrev pub IsDone : (line : List ℕ) → Type 0
IsDone line = answer_said line ≡ Some answer_is.Told
