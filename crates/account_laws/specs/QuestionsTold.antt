-- What a question is answered follows from what was told before (all this project's own).
use Rattle.std.specs.Prelude.{◌≡◌, ℕ, List, Option}
use Rattle.account_laws.specs.AccountsTold.{account_told}
use Rattle.account_lives.specs.Lives.{IsLife, Life}
use Rattle.account_questions.specs.Questions.{answer_to}
use Rattle.account_questions.specs.declared.question.Question.{Question}
use Rattle.account_rules.specs.Devices.{Devices}
use Rattle.account_state.specs.Rooms.{RoomValue}

-- After two lives that tell the same every question is answered the same, on lines and on pages.
abbrev pub QuestionsTellTheLife : Type 0
QuestionsTellTheLife =
    (life another : Life) (room other : Option RoomValue) (devices known : Devices)
    → IsLife life room devices → IsLife another other known
    → account_told life ≡ account_told another
    → (question : Question) (names : List (List ℕ))
    → answer_to question room devices names ≡ answer_to question other known names
