-- A password shows in no question's answer (all this project's own).
use Rattle.std.specs.Prelude.{◌≡◌, ℕ, List, Option}
use Rattle.account_laws.specs.AccountsTold.{nothing_told}
use Rattle.account_lives.specs.Lives.{IsLife, Life}
use Rattle.account_laws.specs.PasswordsStaySecret.{GoAlike}
use Rattle.account_questions.specs.Questions.{answer_to}
use Rattle.account_questions.specs.declared.question.Question.{Question}
use Rattle.account_rules.specs.Devices.{Devices}
use Rattle.account_state.specs.Rooms.{RoomValue}

-- After two lives whose events differ in nothing but passwords every question is answered the same,
-- byte for byte, on lines and on pages.
abbrev pub PasswordsStaySecretInQuestions : Type 0
PasswordsStaySecretInQuestions =
    (life another : Life) (room other : Option RoomValue) (devices known : Devices)
    → IsLife life room devices → IsLife another other known
    → GoAlike nothing_told nothing_told life another
    → (question : Question) (names : List (List ℕ))
    → answer_to question room devices names ≡ answer_to question other known names
