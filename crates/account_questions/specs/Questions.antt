-- Rule: What is asked and changes nothing, and what is answered (all this project's own).
use Rattle.std.specs.Prelude.{◌≡◌, ℕ, ⊤, Bool, true, false, List, map, Option, Some, None, codes}
use Rattle.std.specs.FinMap.{entries, values}
use Rattle.account_machine.specs.declared.event.Reply.{Reply}
use Rattle.account_machine.specs.declared.event.Reply.TheVariants as reply
use Rattle.page_pages.specs.DeskAccounts.{desk_account_page}
use Rattle.page_pages.specs.DeskDevices.{devices_page}
use Rattle.page_pages.specs.Owners.{owner_page}
use Rattle.page_pages.specs.Statements.{statement_page}
use Rattle.account_questions.specs.Lists.{accounts_text, devices_text, grants_text, jobs_text}
use Rattle.account_questions.specs.Pages.{desk_of, owner_of, statement_of}
use Rattle.account_questions.specs.Quotas.{quota_text, statement_text}
use Rattle.account_questions.specs.declared.question.About.{About}
use Rattle.account_questions.specs.declared.question.About.TheVariants.{Left, Statement, Jobs, Ended, Grants, Waiting, Again, OwnerPage, StatementPage, DeskPage}
use Rattle.account_questions.specs.declared.question.Question.{Question}
use Rattle.account_questions.specs.declared.question.Question.TheVariants.{Ping, End, Devices, DevicesPage, Accounts, Check, Account}
use Rattle.account_questions.specs.Stations.{again_told, waiting_told}
use Rattle.account_state.specs.Grants.{grant_of}
use Rattle.account_state.specs.Names.{next_names}
use Rattle.account_state.specs.Summaries.{summary_of}
use Rattle.account_replies.specs.Words.{word_text}
use Rattle.account_rules.specs.Devices.{Devices as DeviceMap}
use Rattle.account_rules.specs.declared.refusal.Word.TheVariants.{NoAccount}
use Rattle.account_state.specs.Queues.{first_jobs, completed, not_completed}
use Rattle.account_state.specs.Rooms.{RoomValue}
use Rattle.account_state.specs.Sums.{charged_in, granted_to, reserved_in}

-- ---- which rows a question is about

-- those of this account
abbrev pub Concerns : Question → (name : List ℕ) → Type 0
Concerns (Check account) name = name ≡ account
Concerns (Account account about) name = name ≡ account
Concerns _ name = ⊥

-- those of no account but this
abbrev pub ConcernsNoOther : Question → (name : List ℕ) → Type 0
ConcernsNoOther question name = (other : List ℕ) → Concerns question other → other ≡ name

-- a station's device has to be known, and the owner's page shows all devices
abbrev pub NeedsDevices : About → Type 0
NeedsDevices (Waiting device) = ⊤
NeedsDevices (Again device job) = ⊤
NeedsDevices (OwnerPage month outcome stays needs_password) = ⊤
NeedsDevices _ = ⊥

-- those of devices
abbrev pub ConcernsDevices : Question → Type 0
ConcernsDevices Devices = ⊤
ConcernsDevices DevicesPage = ⊤
ConcernsDevices (Account account about) = NeedsDevices about
ConcernsDevices _ = ⊥

-- which accounts there are
abbrev pub ConcernsNames : Question → Type 0
ConcernsNames (Accounts behind) = ⊤
ConcernsNames _ = ⊥

-- who serves is asked to end
abbrev pub asks_end : Question → Bool
asks_end End = true
asks_end _ = false

-- ---- the answer

-- whether rows are sound
abbrev pub check_text : (are_sound : Bool) → List ℕ
check_text true = codes "sound"
check_text false = codes "damaged"

-- of an account that is open
abbrev pub answer_about : (account : List ℕ) → About
    → (room : RoomValue) (devices : DeviceMap) → Reply
answer_about account (Left month) room devices =
    reply.Line (quota_text (granted_to room month) (reserved_in room) (charged_in room))
answer_about account (Statement month) room devices =
    reply.Line (statement_text (granted_to room month) (summary_of month (values room.jobs)))
answer_about account Jobs room devices = reply.Line (jobs_text (not_completed (values room.jobs)))
answer_about account (Ended most) room devices =
    reply.Line (jobs_text (first_jobs (Some most) (completed (values room.jobs))))
answer_about account Grants room devices =
    reply.Line (grants_text (map grant_of (entries room.grants)))
answer_about account (Waiting device) room devices = waiting_told room devices device
answer_about account (Again device number) room devices = again_told room devices device number
answer_about account (OwnerPage month outcome stays needs_password) room devices =
    reply.Line (owner_page (owner_of account month outcome stays needs_password room devices))
answer_about account (StatementPage first last form drawn_up) room devices =
    reply.Line (statement_page (statement_of account first last form drawn_up room))
answer_about account (DeskPage month) room devices =
    reply.Line (desk_account_page (desk_of account month room))

-- by the room of the account that it is about, if that is open, by the devices, and by the names of
-- all accounts that are open
abbrev pub answer_to : Question
    → (room : Option RoomValue) (devices : DeviceMap) (names : List (List ℕ)) → Reply
answer_to Ping room devices names = reply.Line (codes "ok")
answer_to End room devices names = reply.Line (codes "ok")
answer_to Devices room devices names = reply.Line (devices_text (values devices))
answer_to DevicesPage room devices names = reply.Line (devices_page (values devices))
answer_to (Accounts behind) room devices names =
    reply.Line (accounts_text (next_names behind names))
answer_to (Check account) None devices names = reply.Line (word_text NoAccount)
answer_to (Check account) (Some room) devices names = reply.Line (check_text true)
answer_to (Account account about) None devices names = reply.Line (word_text NoAccount)
answer_to (Account account about) (Some room) devices names =
    answer_about account about room devices
