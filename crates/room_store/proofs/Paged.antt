-- Pages that are told: what was read is what they show.
use Rattle.std.proofs.Common.{◌≡◌, ℕ, Bool, List, map, Option, Some, ap, ◌∙◌}
use Rattle.std.specs.FinMap.{entries, values}
use Rattle.account_machine.specs.declared.event.Reply.{Reply}
use Rattle.account_machine.specs.declared.event.Reply.TheVariants.{Line}
use Rattle.page_pages.specs.DeskAccounts.{desk_account_page}
use Rattle.page_pages.specs.Owners.{owner_page}
use Rattle.page_pages.specs.declared.desk_account.DeskAccount.{DeskAccount}
use Rattle.page_pages.specs.Statements.{statement_page}
use Rattle.page_pages.specs.declared.outcome.Outcome.{Outcome}
use Rattle.page_pages.specs.declared.owner.Owner.{Owner}
use Rattle.page_pages.specs.declared.statement.Form.{Form}
use Rattle.page_pages.specs.declared.statement.Statement.{Statement}
use Rattle.account_questions.specs.Pages.{desk_of, most_shown, owner_of, statement_of}
use Rattle.account_state.specs.Grants.{grant_of}
use Rattle.account_rules.specs.Devices.{Devices}
use Rattle.account_rules.specs.declared.account.Grant.{Grant}
use Rattle.account_rules.specs.declared.device.Device.{Device}
use Rattle.account_rules.specs.declared.job.Job.{Job}
use Rattle.account_state.specs.Queues.{first_jobs, completed, not_completed}
use Rattle.account_state.specs.Rooms.{RoomValue}
use Rattle.account_state.specs.Sums.{charged_in, granted_to, reserved_in}

module _ (account : List ℕ) (month : ℕ) (outcome : Option Outcome) (stays needs_password : Bool) where
  abbrev pub owner_with : (granted reserved charged : ℕ) (waiting ended : List Job) (devices : List Device) → Owner
  owner_with granted reserved charged waiting ended devices = record {
    account = account;
    month = month;
    granted = granted;
    reserved = reserved;
    charged = charged;
    waiting = waiting;
    ended = ended;
    devices = devices;
    outcome = outcome;
    stays = stays;
    needs_password = needs_password;
  }

  pub owner_told : (room : RoomValue) (devices : Devices) (granted reserved charged : ℕ) (waiting ended : List Job) (listed : List Device) (page : List ℕ)
      → (granted ≡ granted_to room month) × (reserved ≡ reserved_in room) × (charged ≡ charged_in room)
      → (waiting ≡ not_completed (values room.jobs)) × (ended ≡ first_jobs (Some most_shown) (completed (values room.jobs))) → listed ≡ values devices
      → page ≡ owner_page (owner_with granted reserved charged waiting ended listed)
      → ◌≡◌ {A = Reply} (Line page) (Line (owner_page (owner_of account month outcome stays needs_password room devices)))
  owner_told room devices granted reserved charged waiting ended listed page quota jobs all is =
      ap Line (is ∙ (λ i. owner_page (owner_with (quota.0 i) (quota.1 i) (quota.2 i) (jobs.0 i) (jobs.1 i) (all i))))

module _ (account : List ℕ) (first last : ℕ) (form : Form) (drawn_up : ℕ) where
  abbrev pub statement_with : (granted reserved charged : ℕ) (grants : List Grant) (ended : List Job) → Statement
  statement_with granted reserved charged grants ended = record {
    account = account;
    first = first;
    last = last;
    form = form;
    drawn_up = drawn_up;
    granted = granted;
    reserved = reserved;
    charged = charged;
    grants = grants;
    ended = ended;
  }

  pub statement_told : (room : RoomValue) (granted reserved charged : ℕ) (grants : List Grant) (ended : List Job) (page : List ℕ)
      → (granted ≡ granted_to room last) × (reserved ≡ reserved_in room) × (charged ≡ charged_in room)
      → (grants ≡ map grant_of (entries room.grants)) × (ended ≡ completed (values room.jobs))
      → page ≡ statement_page (statement_with granted reserved charged grants ended)
      → ◌≡◌ {A = Reply} (Line page) (Line (statement_page (statement_of account first last form drawn_up room)))
  statement_told room granted reserved charged grants ended page quota moved is =
      ap Line (is ∙ (λ i. statement_page (statement_with (quota.0 i) (quota.1 i) (quota.2 i) (moved.0 i) (moved.1 i))))

module _ (account : List ℕ) (month : ℕ) where
  abbrev pub desk_with : (granted reserved charged : ℕ) (waiting ended : List Job) (grants : List Grant) → DeskAccount
  desk_with granted reserved charged waiting ended grants = record {
    account = account;
    month = month;
    granted = granted;
    reserved = reserved;
    charged = charged;
    waiting = waiting;
    ended = ended;
    grants = grants;
  }

  pub desk_told : (room : RoomValue) (granted reserved charged : ℕ) (waiting ended : List Job) (grants : List Grant) (page : List ℕ)
      → (granted ≡ granted_to room month) × (reserved ≡ reserved_in room) × (charged ≡ charged_in room)
      → (waiting ≡ not_completed (values room.jobs)) × (ended ≡ first_jobs (Some most_shown) (completed (values room.jobs))) → grants ≡ map grant_of (entries room.grants)
      → page ≡ desk_account_page (desk_with granted reserved charged waiting ended grants)
      → ◌≡◌ {A = Reply} (Line page) (Line (desk_account_page (desk_of account month room)))
  desk_told room granted reserved charged waiting ended grants page quota jobs all is =
      ap Line (is ∙ (λ i. desk_account_page (desk_with (quota.0 i) (quota.1 i) (quota.2 i) (jobs.0 i) (jobs.1 i) (all i))))
