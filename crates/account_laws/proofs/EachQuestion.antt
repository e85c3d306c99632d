-- Each question is answered by what was told.
use Rattle.account_laws.proofs.AgainTold.{again_is_told}
use Rattle.account_laws.proofs.JobLinesTold.{ended_are_told, jobs_are_told, waiting_is_told}
use Rattle.account_laws.proofs.LinesTold.{accounts_are_listed, devices_are_told, grants_are_told, left_is_told, others_are_told}
use Rattle.account_laws.proofs.PagesTold.{desk_pages_are_told, devices_pages_are_told, owner_pages_are_told, statement_pages_are_told}
use Rattle.account_laws.proofs.StatementsTold.{statements_are_told}
use Rattle.account_laws.specs.EachQuestion.{EachQuestionIsTold}
use Rattle.account_questions.specs.declared.question.About.TheVariants.{Left, Statement, Jobs, Ended, Grants, Waiting, Again, OwnerPage, StatementPage, DeskPage}
use Rattle.account_questions.specs.declared.question.Question.TheVariants.{Ping, End, Devices, DevicesPage, Accounts, Check, Account}

pub each_question_is_told : EachQuestionIsTold
each_question_is_told Ping life room devices names is = others_are_told.ping life room devices names is
each_question_is_told End life room devices names is = others_are_told.end life room devices names is
each_question_is_told Devices life room devices names is = devices_are_told life room devices names is
each_question_is_told DevicesPage life room devices names is = devices_pages_are_told life room devices names is
each_question_is_told (Accounts behind) life room devices names is = accounts_are_listed behind room devices names
each_question_is_told (Check account) life room devices names is = others_are_told.check account life room devices names is
each_question_is_told (Account account (Left month)) life room devices names is = left_is_told account month life room devices names is
each_question_is_told (Account account (Statement month)) life room devices names is = statements_are_told account month life room devices names is
each_question_is_told (Account account Jobs) life room devices names is = jobs_are_told account life room devices names is
each_question_is_told (Account account (Ended most)) life room devices names is = ended_are_told account most life room devices names is
each_question_is_told (Account account Grants) life room devices names is = grants_are_told account life room devices names is
each_question_is_told (Account account (Waiting device)) life room devices names is = waiting_is_told account device life room devices names is
each_question_is_told (Account account (Again device number)) life room devices names is = again_is_told account device number life room devices names is
each_question_is_told (Account account (OwnerPage month outcome stays needs_password)) life room devices names is = owner_pages_are_told account month outcome stays needs_password life room devices names is
each_question_is_told (Account account (StatementPage first last form drawn_up)) life room devices names is = statement_pages_are_told account first last form drawn_up life room devices names is
each_question_is_told (Account account (DeskPage month)) life room devices names is = desk_pages_are_told account month life room devices names is
