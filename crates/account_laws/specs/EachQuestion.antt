-- Each question, and there is no other, is answered by what was told (all this project's own).
use Rattle.std.specs.Prelude.{◌≡◌, ℕ, if◌then◌else◌, codes, List, ◌++◌, filter, take, Option, is_none}
use Rattle.std.specs.FinMap.{entries, get}
use Rattle.account_laws.specs.AccountsTold.{AccountTold, account_told}
use Rattle.account_laws.specs.AgainTold.{again_answer}
use Rattle.account_laws.specs.JobLinesTold.{jobs_lines, waiting_at}
use Rattle.account_laws.specs.LinesTold.{account_line, comes_behind, device_line, grant_line, if_opened, left_line, lines_told}
use Rattle.account_laws.specs.ListedJobs.{latest_first, unfinished_jobs}
use Rattle.account_laws.specs.PagesTold.{desk_told, devices_page_told, owner_told, statement_told}
use Rattle.account_laws.specs.RefusalTexts.{text_of}
use Rattle.account_laws.specs.StatementsTold.{month_line}
use Rattle.account_lives.specs.Lives.{IsLife, Life}
use Rattle.account_machine.specs.declared.event.Reply.{Reply}
use Rattle.account_machine.specs.declared.event.Reply.TheVariants as reply
use Rattle.account_questions.specs.Questions.{answer_to}
use Rattle.account_questions.specs.declared.question.About.{About}
use Rattle.account_questions.specs.declared.question.About.TheVariants.{Left, Statement, Jobs, Ended, Grants, Waiting, Again, OwnerPage, StatementPage, DeskPage}
use Rattle.account_questions.specs.declared.question.Question.{Question}
use Rattle.account_questions.specs.declared.question.Question.TheVariants.{Ping, End, Devices, DevicesPage, Accounts, Check, Account}
use Rattle.account_rules.specs.Devices.{Devices as DeviceMap}
use Rattle.account_rules.specs.declared.refusal.Word.TheVariants.{NoDevice}
use Rattle.account_state.specs.Rooms.{RoomValue}
use Rattle.page_pages.specs.DeskAccounts.{desk_account_page}
use Rattle.page_pages.specs.Owners.{owner_page}
use Rattle.page_pages.specs.Statements.{statement_page}

-- of one account: only `again` is answered with documents
abbrev pub about_told : (account : List ℕ) → About → AccountTold → Reply
about_told account (Left month) told = if_opened told (left_line told month)
about_told account (Statement month) told =
    if_opened told (left_line told month ++ month_line told month)
about_told account Jobs told = if_opened told (jobs_lines (unfinished_jobs told))
about_told account (Ended most) told = if_opened told (jobs_lines (take most (latest_first told)))
about_told account Grants told =
    if_opened told (lines_told (codes "grants") grant_line (entries told.grants))
about_told account (Waiting device) told =
    if_opened told (if is_none (get told.on device) then text_of NoDevice
    else jobs_lines (waiting_at told device))
about_told account (Again device number) told = again_answer device number told
about_told account (OwnerPage month outcome stays needs_password) told =
    if_opened told (owner_page (owner_told account month outcome stays needs_password told))
about_told account (StatementPage first last form drawn_up) told =
    if_opened told (statement_page (statement_told account first last form drawn_up told))
about_told account (DeskPage month) told =
    if_opened told (desk_account_page (desk_told account month told))

abbrev pub question_told : Question → (names : List (List ℕ)) → AccountTold → Reply
question_told Ping names told = reply.Line (codes "ok")
question_told End names told = reply.Line (codes "ok")
question_told Devices names told =
    reply.Line (lines_told (codes "devices") (device_line told) (entries told.on))
question_told DevicesPage names told = reply.Line (devices_page_told told)
question_told (Accounts behind) names told =
    reply.Line
    (lines_told (codes "accounts") account_line (take 100 (filter (comes_behind behind) names)))
question_told (Check account) names told = if_opened told (codes "sound")
question_told (Account account about) names told = about_told account about told

-- whatever is asked, after every life: whoever adds a question adds its answer here
abbrev pub EachQuestionIsTold : Type 0
EachQuestionIsTold =
    (question : Question) (life : Life) (room : Option RoomValue) (devices : DeviceMap)
    (names : List (List ℕ))
    → IsLife life room devices
    → answer_to question room devices names ≡ question_told question names (account_told life)
