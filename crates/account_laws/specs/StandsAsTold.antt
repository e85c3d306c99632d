-- An account's room, and the devices, stand as was told (all this project's own).
use Rattle.std.specs.Prelude.{◌≡◌, ℕ, ◌*◌, Bool, true, false, List, map, length, Option, Some, None, option_map}
use Rattle.std.specs.FinMap.{empty, get}
use Rattle.account_laws.specs.AccountsTold.{AccountTold, account_told, rate_told}
use Rattle.account_laws.specs.JobsTold.{JobTold, Sent, Stage, Waits, IsFree, Prints, HasEnded}
use Rattle.account_lives.specs.Lives.{IsLife, Life}
use Rattle.account_rules.specs.Devices.{Devices}
use Rattle.account_rules.specs.JobStates.{has_ended, is_unfinished}
use Rattle.account_rules.specs.declared.device.Device.{Device}
use Rattle.account_rules.specs.declared.job.Document.{Document}
use Rattle.account_rules.specs.declared.job.Job.{Job}
use Rattle.account_rules.specs.declared.job.JobState.{JobState}
use Rattle.account_rules.specs.declared.job.JobState.TheVariants.{Held, Pending, Processing, Canceled}
use Rattle.account_rules.specs.declared.job.Standing.{Standing}
use Rattle.account_state.specs.Documents.{documents_of}
use Rattle.account_state.specs.Rooms.{RoomValue}

-- ---- a job

pub record IsWaiting (s : Standing) : Type 0 where
  pub state : s.state ≡ Held
  pub bound : s.device ≡ None
  pub rated : s.rate ≡ 1
  pub reserved : s.reserved ≡ 0
  pub charged : s.charged ≡ 0
  pub stopping : s.stopping ≡ false
  pub started : s.started ≡ None
  pub ended : s.ended ≡ None

pub record IsReleased (device : Option (List ℕ)) (rate units : ℕ) (s : Standing) : Type 0 where
  pub state : s.state ≡ Pending
  pub bound : s.device ≡ device
  pub rated : s.rate ≡ rate
  pub reserved : s.reserved ≡ units
  pub charged : s.charged ≡ 0
  pub stopping : s.stopping ≡ false
  pub started : s.started ≡ None
  pub ended : s.ended ≡ None

pub record IsPrinting (device : List ℕ) (rate units since : ℕ) (is_canceled : Bool)
    (s : Standing) : Type 0 where
  pub state : s.state ≡ Processing
  pub bound : s.device ≡ Some device
  pub rated : s.rate ≡ rate
  pub reserved : s.reserved ≡ units
  pub charged : s.charged ≡ 0
  pub stopping : s.stopping ≡ is_canceled
  pub started : s.started ≡ Some since
  pub ended : s.ended ≡ None

-- a job was canceled while a device printed it, and that device settled it
abbrev pub was_stopped : (how : JobState) (since : Option ℕ) → Bool
was_stopped Canceled (Some since) = true
was_stopped _ _ = false

pub record IsOver (how : JobState) (count units : ℕ) (since : Option ℕ) (at : ℕ) (s : Standing)
    : Type 0 where
  pub state : s.state ≡ how
  pub is_end : has_ended how ≡ true
  pub closed : s.is_open ≡ false
  pub stopping : s.stopping ≡ was_stopped how since
  pub reserved : s.reserved ≡ 0
  pub charged : s.charged ≡ units
  pub counted : s.charged ≡ count * s.rate
  pub started : s.started ≡ since
  pub ended : s.ended ≡ Some at

abbrev pub IsAt : Stage → Standing → Type 0
IsAt Waits s = IsWaiting s
IsAt (IsFree device rate units) s = IsReleased device rate units s
IsAt (Prints device rate units since is_canceled) s =
    IsPrinting device rate units since is_canceled s
IsAt (HasEnded how count units since at) s = IsOver how count units since at s

abbrev pub as_sent : Document → Sent
as_sent document = record { format = document.format; bytes = document.bytes }

-- the job has what was asked and told of it; its documents are there until it ends
pub record IsAsTold (number : ℕ) (told : JobTold) (room : RoomValue) (job : Job) : Type 0 where
  pub numbered : job.job ≡ number
  pub name : job.name ≡ told.maker.name
  pub password : job.password ≡ told.maker.password
  pub copies : job.standing.copies ≡ told.maker.copies
  pub created : job.standing.created ≡ told.made
  pub impressions : job.standing.impressions ≡ told.impressions
  pub count : job.standing.documents ≡ length told.documents
  pub bound : job.standing.device ≡ told.device
  pub rated : job.standing.rate ≡ told.rate
  pub stage : IsAt told.stage job.standing
  pub is_open : is_unfinished job.standing.state ≡ true → job.standing.is_open ≡ told.is_open
  pub documents : is_unfinished job.standing.state ≡ true
      → map as_sent (documents_of room number) ≡ told.documents

abbrev pub AreAsTold : (number : ℕ) (told : Option JobTold) (room : RoomValue)
    (job : Option Job) → Type 0
AreAsTold number None room job = job ≡ None
AreAsTold number (Some told) room None = ⊥
AreAsTold number (Some told) room (Some job) = IsAsTold number told room job

-- ---- an account

pub record StandsAsTold (told : AccountTold) (room : RoomValue) : Type 0 where
  pub opened : told.opened ≡ Some room.opened
  pub next : room.next ≡ told.next
  pub jobs : (number : ℕ) → AreAsTold number (get told.jobs number) room (get room.jobs number)
  pub grants : (month : ℕ) → get room.grants month ≡ get told.grants month

-- of one that was not opened nothing was told
pub record WasNotOpened (told : AccountTold) : Type 0 where
  pub opened : told.opened ≡ None
  pub jobs : told.jobs ≡ empty
  pub next : told.next ≡ 1
  pub grants : told.grants ≡ empty

abbrev pub AccountStands : AccountTold → Option RoomValue → Type 0
AccountStands told None = WasNotOpened told
AccountStands told (Some room) = StandsAsTold told room

-- ---- the devices

-- a device that was switched on or off is known, and no other
abbrev pub device_told : (told : AccountTold) (name : List ℕ) → Option Device
device_told told name =
    option_map
    (λ (on : Bool). let device : Device = record { name = name; on = on; rate = rate_told told name } in device)
    (get told.on name)

-- ---- the law

pub record AllStands (told : AccountTold) (room : Option RoomValue) (devices : Devices)
    : Type 0 where
  pub account : AccountStands told room
  pub known : (name : List ℕ) → get devices name ≡ device_told told name

-- what a life leaves is what was asked and told in it
abbrev pub LeavesAsTold : Type 0
LeavesAsTold =
    (life : Life) (room : Option RoomValue) (devices : Devices) → IsLife life room devices
    → AllStands (account_told life) room devices
