-- Rule: What a station is answered (all this project's own). Its device is looked at first, then
-- the job, then the table of states (Moves of account_rules).
use Rattle.std.specs.Prelude.{ℕ, Bool, List, map, Result, Ok, Err}
use Rattle.std.specs.FinMap.{get}
use Rattle.account_replies.specs.Parts.{part_of}
use Rattle.account_replies.specs.Stations.{known_device, ready_device}
use Rattle.account_machine.specs.declared.event.Reply.TheVariants as reply
use Rattle.account_machine.specs.JobActs.{act_on}
use Rattle.account_machine.specs.Verdicts.{line_done}
use Rattle.account_machine.specs.Steps.{Step, refusing_or, telling, and_then, with_moved}
use Rattle.account_rules.specs.Acts.{StationRelease, StationStart, StationSettle}
use Rattle.account_rules.specs.declared.device.Device.{Device}
use Rattle.account_rules.specs.declared.job.Job.{Job}
use Rattle.account_rules.specs.declared.job.Standing.{Standing}
use Rattle.account_rules.specs.declared.refusal.Refusal.{Refusal}
use Rattle.account_rules.specs.declared.refusal.Word.{Word}
use Rattle.account_rules.specs.Devices.{Devices}
use Rattle.account_state.specs.Documents.{documents_of}
use Rattle.account_state.specs.Rooms.{RoomValue}
use Rattle.account_state.specs.Sums.{left_in}
use Rattle.account_replies.specs.declared.station_line.Success.TheVariants.{Released, Settled}

-- a station: the name of its device, among all devices, at a moment
pub record PlainStation : Type 0 where
  pub devices : Devices
  pub device : List ℕ
  pub now : ℕ

abbrev pub station : (devices : Devices) (device : List ℕ) (now : ℕ) → PlainStation
station devices device now = record { devices = devices; device = device; now = now }

-- a station is told the word of a refusal alone
abbrev pub by_word : (moved : Result Standing Refusal) → Result Standing Word
by_word (Ok standing) = Ok standing
by_word (Err refusal) = Err refusal.word

-- ---- release

-- of the job with the number, by the password and the impressions that are handed in
abbrev pub station_release :
    (room : RoomValue) (at : PlainStation) (number : ℕ) (password : List ℕ) (impressions : ℕ) →
    Result Standing Word
station_release room at number password impressions =
    and_then (ready_device (get at.devices at.device)) (λ (ready : Device).
    by_word (act_on room number (λ (job : Job).
    StationRelease job.password at.device password impressions ready.rate (left_in room at.now))))

-- what the job reserves, and what is left then
abbrev pub release_told : (room : RoomValue) (now number : ℕ) (decided : Result Standing Word)
    → Step
release_told room now number decided = refusing_or room decided (λ (standing : Standing).
    let after = with_moved room number standing in
    telling after (Released standing.reserved (left_in after now)))

-- ---- start

abbrev pub station_start :
    (room : RoomValue) (at : PlainStation) (number : ℕ) →
    Result Standing Word
station_start room at number =
    and_then (ready_device (get at.devices at.device)) (λ (ready : Device).
    by_word (act_on room number (λ _. StationStart at.device ready.rate at.now)))

-- each document of the job, as it is handed to the device
abbrev pub start_told : (room : RoomValue) (number : ℕ) (decided : Result Standing Word) → Step
start_told room number decided = refusing_or room decided (λ (standing : Standing). record {
  reply = reply.Documents (map (part_of standing.copies) (documents_of room number));
  verdict = line_done;
  room = with_moved room number standing;
})

-- ---- settle

-- of the job with the number, of which the device completed so many impressions
abbrev pub station_settle :
    (room : RoomValue) (at : PlainStation) (number impressions : ℕ) (failed : Bool) →
    Result Standing Word
station_settle room at number impressions failed =
    and_then (known_device (get at.devices at.device)) (λ _.
    by_word (act_on room number (λ _. StationSettle at.device impressions failed at.now)))

-- what the job was charged, and what is left then
abbrev pub settling_told : (room : RoomValue) (now number : ℕ) (decided : Result Standing Word)
    → Step
settling_told room now number decided = refusing_or room decided (λ (standing : Standing).
    let after = with_moved room number standing in
    telling after (Settled standing.charged (left_in after now)))
