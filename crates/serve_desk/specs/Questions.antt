-- Rule: The questions that pages of the desk are answered by (all this project's own).
use Rattle.std.specs.Prelude.{ℕ, false}
use Rattle.account_questions.specs.declared.question.About.TheVariants.{DeskPage}
use Rattle.account_questions.specs.declared.question.Question.{Question}
use Rattle.account_questions.specs.declared.question.Question.TheVariants.{Account, DevicesPage, Ping}
use Rattle.serve_web.specs.Questions.{month_then, question_of as page_question}
use Rattle.serve_desk.specs.declared.asked.Asked.{Asked}
use Rattle.serve_desk.specs.declared.asked.Asked.TheVariants as asked_is

-- what is no such page asks nothing
abbrev pub question_of : (moment : ℕ) → Asked → Question
question_of moment asked_is.Devices = DevicesPage
question_of moment (asked_is.Account account) = Account account (DeskPage (month_then moment))
question_of moment (asked_is.Statement asked) = page_question false moment asked
question_of moment _ = Ping
