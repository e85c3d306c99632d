-- What the pages of an account show, by what was told (all this project's own). How a page writes
-- it stands in page_pages.
use Rattle.std.specs.Prelude.{ℕ, Bool, false, not, ◌&&◌, List, length, map, take, Option}
use Rattle.std.specs.FinMap.{entries}
use Rattle.account_laws.specs.AccountsTold.{AccountTold, charged_told, granted_told, rate_told, reserved_told}
use Rattle.account_laws.specs.JobsTold.{Stage, Prints, HasEnded, is_over, units_charged, units_reserved}
use Rattle.account_laws.specs.LinesTold.{IsAnswered, if_opened}
use Rattle.account_laws.specs.ListedJobs.{Numbered, latest_first, unfinished_jobs}
use Rattle.account_laws.specs.StagesTold.{ended_told, started_told, state_told}
use Rattle.account_laws.specs.StandsAsTold.{was_stopped}
use Rattle.account_questions.specs.declared.question.About.TheVariants.{DeskPage, OwnerPage, StatementPage}
use Rattle.account_questions.specs.declared.question.Question.TheVariants.{Account, DevicesPage}
use Rattle.account_state.specs.Grants.{grant_of}
use Rattle.account_rules.specs.declared.device.Device.{Device}
use Rattle.account_rules.specs.declared.job.Job.{Job}
use Rattle.account_machine.specs.declared.event.Reply.TheVariants as reply
use Rattle.page_pages.specs.DeskAccounts.{desk_account_page}
use Rattle.page_pages.specs.DeskDevices.{devices_page}
use Rattle.page_pages.specs.Owners.{owner_page}
use Rattle.page_pages.specs.declared.desk_account.DeskAccount.{DeskAccount}
use Rattle.page_pages.specs.Statements.{statement_page}
use Rattle.page_pages.specs.declared.outcome.Outcome.{Outcome}
use Rattle.page_pages.specs.declared.owner.Owner.{Owner}
use Rattle.page_pages.specs.declared.statement.Form.{Form}
use Rattle.page_pages.specs.declared.statement.Statement.{Statement}

-- ---- a job, and a device

-- a job was canceled while a device printed it
abbrev pub is_stopped : Stage → Bool
is_stopped (Prints device rate units since is_canceled) = is_canceled
is_stopped (HasEnded how count units since at) = was_stopped how since
is_stopped _ = false

-- all that was told of a job
abbrev pub whole_job : Numbered → Job
whole_job it = let job = it.1 in record {
  job = it.0;
  name = job.maker.name;
  password = job.maker.password;
  standing = record {
    state = state_told job.stage;
    is_open = not (is_over job.stage) && job.is_open;
    stopping = is_stopped job.stage;
    copies = job.maker.copies;
    impressions = job.impressions;
    reserved = units_reserved job;
    charged = units_charged job;
    documents = length job.documents;
    rate = job.rate;
    device = job.device;
    created = job.made;
    started = started_told job.stage;
    ended = ended_told job.stage;
  };
}

abbrev pub whole_device : (told : AccountTold) → List ℕ × Bool → Device
whole_device told device =
    record { name = device.0; on = device.1; rate = rate_told told device.0 }

-- ---- an owner's page

-- the quota up to the month, the jobs that go on, the last 20 that ended, all devices, what came of
-- the last act, and what the browser asked for
abbrev pub owner_told :
    (account : List ℕ) (month : ℕ) (outcome : Option Outcome) (stays needs_password : Bool)
    (told : AccountTold) → Owner
owner_told account month outcome stays needs_password told = record {
  account = account;
  month = month;
  granted = granted_told told month;
  reserved = reserved_told told;
  charged = charged_told told;
  waiting = map whole_job (unfinished_jobs told);
  ended = map whole_job (take 20 (latest_first told));
  devices = map (whole_device told) (entries told.on);
  outcome = outcome;
  stays = stays;
  needs_password = needs_password;
}

abbrev pub OwnerPagesAreTold : Type 0
OwnerPagesAreTold =
    (account : List ℕ) (month : ℕ) (outcome : Option Outcome) (stays needs_password : Bool)
    → IsAnswered (Account account (OwnerPage month outcome stays needs_password)) (λ told.
    if_opened told (owner_page (owner_told account month outcome stays needs_password told)))

-- ---- a statement

-- what was granted up to the last month, what is reserved and was charged, all grants, and all jobs
-- that ended, the last first
abbrev pub statement_told : (account : List ℕ) (first last : ℕ) (form : Form) (drawn_up : ℕ)
    (told : AccountTold) → Statement
statement_told account first last form drawn_up told = record {
  account = account;
  first = first;
  last = last;
  form = form;
  drawn_up = drawn_up;
  granted = granted_told told last;
  reserved = reserved_told told;
  charged = charged_told told;
  grants = map grant_of (entries told.grants);
  ended = map whole_job (latest_first told);
}

abbrev pub StatementPagesAreTold : Type 0
StatementPagesAreTold = (account : List ℕ) (first last : ℕ) (form : Form) (drawn_up : ℕ)
    → IsAnswered (Account account (StatementPage first last form drawn_up)) (λ told.
    if_opened told (statement_page (statement_told account first last form drawn_up told)))

-- ---- the pages of the desk

-- the quota up to the month, the jobs that go on, the last 20 that ended, and all grants
abbrev pub desk_told : (account : List ℕ) (month : ℕ) (told : AccountTold) → DeskAccount
desk_told account month told = record {
  account = account;
  month = month;
  granted = granted_told told month;
  reserved = reserved_told told;
  charged = charged_told told;
  waiting = map whole_job (unfinished_jobs told);
  ended = map whole_job (take 20 (latest_first told));
  grants = map grant_of (entries told.grants);
}

abbrev pub DeskPagesAreTold : Type 0
DeskPagesAreTold = (account : List ℕ) (month : ℕ)
    → IsAnswered (Account account (DeskPage month)) (λ told.
    if_opened told (desk_account_page (desk_told account month told)))

-- all devices
abbrev pub devices_page_told : AccountTold → List ℕ
devices_page_told told = devices_page (map (whole_device told) (entries told.on))

abbrev pub DevicesPagesAreTold : Type 0
DevicesPagesAreTold = IsAnswered DevicesPage (λ told. reply.Line (devices_page_told told))
