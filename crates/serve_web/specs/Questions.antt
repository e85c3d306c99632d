-- Rule: The question that a page of an account answers (all this project's own).
use Rattle.std.specs.Prelude.{ℕ, Bool, List, codes, if◌then◌else◌, nat_lt, Option, Some, None}
use Rattle.account_questions.specs.declared.question.About.TheVariants.{OwnerPage, StatementPage}
use Rattle.account_questions.specs.declared.question.Question.{Question}
use Rattle.account_questions.specs.declared.question.Question.TheVariants.{Account, Ping}
use Rattle.account_rules.specs.Limits.{last_moment, last_month}
use Rattle.account_rules.specs.Months.{month_at}
use Rattle.page_pages.specs.declared.statement.Form.{Form}
use Rattle.page_pages.specs.declared.statement.Form.TheVariants.{Paper, Csv}
use Rattle.account_questions.specs.declared.question.About.{About}
use Rattle.serve_web.specs.declared.asked.Months.{Months}
use Rattle.serve_web.specs.declared.asked.Asked.{Asked}
use Rattle.serve_web.specs.declared.asked.Asked.TheVariants.{Owner, Statement}

-- the month of a moment, and the last that there is where it comes behind that
abbrev pub month_then : (moment : ℕ) → ℕ
month_then moment = if nat_lt last_moment moment then last_month else month_at moment

-- the month that it is, where the query names none
abbrev pub months_then : (moment : ℕ) (months : Option Months) → Months
months_then moment (Some months) = months
months_then moment None = record { first = month_then moment; last = month_then moment }

-- what is no page of an account asks nothing
abbrev pub question_of : (needs_password : Bool) (moment : ℕ) → Asked → Question
question_of needs_password moment (Owner account came stays) =
    Account account (OwnerPage (month_then moment) came stays needs_password)
question_of needs_password moment (Statement account form months) =
    let asked = months_then moment months in
    Account account (StatementPage asked.first asked.last form moment)
question_of needs_password moment _ = Ping

-- ---- the Content-Type of the answer: of a table text/csv (RFC 7111 section 5.1), else that of a page

abbrev pub form_kind : Form → List ℕ
form_kind Paper = codes "text/html; charset=utf-8"
form_kind Csv = codes "text/csv; charset=utf-8"

abbrev pub about_kind : About → List ℕ
about_kind (StatementPage first last form drawn_up) = form_kind form
about_kind _ = codes "text/html; charset=utf-8"

abbrev pub kind_of : Question → List ℕ
kind_of (Account account about) = about_kind about
kind_of _ = codes "text/html; charset=utf-8"
