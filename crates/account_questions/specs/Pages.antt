-- Rule: The pages of an account (all this project's own).
use Rattle.std.specs.Prelude.{ℕ, Bool, List, map, Option, Some}
use Rattle.std.specs.FinMap.{entries, values}
use Rattle.page_pages.specs.declared.desk_account.DeskAccount.{DeskAccount}
use Rattle.page_pages.specs.declared.outcome.Outcome.{Outcome}
use Rattle.page_pages.specs.declared.owner.Owner.{Owner}
use Rattle.page_pages.specs.declared.statement.Form.{Form}
use Rattle.page_pages.specs.declared.statement.Statement.{Statement}
use Rattle.account_state.specs.Grants.{grant_of}
use Rattle.account_rules.specs.Devices.{Devices}
use Rattle.account_state.specs.Queues.{first_jobs, completed, not_completed}
use Rattle.account_state.specs.Rooms.{RoomValue}
use Rattle.account_state.specs.Sums.{charged_in, granted_to, reserved_in}

-- how many jobs that have ended the owner's page and that of the desk show
abbrev pub most_shown : ℕ
most_shown = 20

-- what the owner's page shows: the quota up to a month, all jobs that have not ended, the last that
-- have, and all devices
abbrev pub owner_of : (account : List ℕ) (month : ℕ) (outcome : Option Outcome)
    (stays needs_password : Bool) (room : RoomValue) (devices : Devices) → Owner
owner_of account month outcome stays needs_password room devices = record {
  account = account;
  month = month;
  granted = granted_to room month;
  reserved = reserved_in room;
  charged = charged_in room;
  waiting = not_completed (values room.jobs);
  ended = first_jobs (Some most_shown) (completed (values room.jobs));
  devices = values devices;
  outcome = outcome;
  stays = stays;
  needs_password = needs_password;
}

-- what a statement shows: what was granted for the months up to the last, what all jobs reserve and
-- were charged, all grants, and all jobs that have ended. Its rows are those of its months.
abbrev pub statement_of : (account : List ℕ) (first last : ℕ) (form : Form) (drawn_up : ℕ)
    (room : RoomValue) → Statement
statement_of account first last form drawn_up room = record {
  account = account;
  first = first;
  last = last;
  form = form;
  drawn_up = drawn_up;
  granted = granted_to room last;
  reserved = reserved_in room;
  charged = charged_in room;
  grants = map grant_of (entries room.grants);
  ended = completed (values room.jobs);
}

-- what the desk's page of an account shows: the quota up to a month, all jobs that have not ended, the
-- last that have, and all grants
abbrev pub desk_of : (account : List ℕ) (month : ℕ) (room : RoomValue) → DeskAccount
desk_of account month room = record {
  account = account;
  month = month;
  granted = granted_to room month;
  reserved = reserved_in room;
  charged = charged_in room;
  waiting = not_completed (values room.jobs);
  ended = first_jobs (Some most_shown) (completed (values room.jobs));
  grants = map grant_of (entries room.grants);
}
