-- Rule: What a station asks about an account (all this project's own). Its device is looked at
-- first, then the job, as when it settles.
use Rattle.std.specs.Prelude.{ℕ, Bool, not, if◌then◌else◌, List, filter, map, Option, Some, None, Result, Ok, Err}
use Rattle.std.specs.FinMap.{get, values}
use Rattle.account_machine.specs.Steps.{and_then}
use Rattle.account_machine.specs.declared.event.Reply.{Reply}
use Rattle.account_machine.specs.declared.event.Reply.TheVariants as reply
use Rattle.account_questions.specs.Lists.{jobs_text}
use Rattle.account_replies.specs.Parts.{part_of}
use Rattle.account_replies.specs.Stations.{known_device}
use Rattle.account_replies.specs.Words.{word_text}
use Rattle.account_rules.specs.Devices.{Devices}
use Rattle.account_rules.specs.Effects.{is_bound_elsewhere}
use Rattle.account_rules.specs.JobStates.{is_processing}
use Rattle.account_rules.specs.declared.job.Job.{Job}
use Rattle.account_rules.specs.declared.refusal.Word.{Word}
use Rattle.account_rules.specs.declared.refusal.Word.TheVariants.{NoJob, NotProcessing, OtherDevice, Stopping}
use Rattle.account_state.specs.Documents.{documents_of}
use Rattle.account_state.specs.Queues.{not_completed}
use Rattle.account_state.specs.Rooms.{RoomValue}

-- the word of a refusal, or what is said of what passed
abbrev pub said_or : {A : Type 0} (decided : Result A Word) (said : A → Reply) → Reply
said_or (Err word) said = reply.Line (word_text word)
said_or (Ok passed) said = said passed

-- ---- what waits

-- no other device has it
abbrev pub is_for : (device : List ℕ) (job : Job) → Bool
is_for device job = not (is_bound_elsewhere job.standing.device device)

abbrev pub waiting_at : (room : RoomValue) (device : List ℕ) → List Job
waiting_at room device = filter (is_for device) (not_completed (values room.jobs))

-- ---- the documents again

-- of a job that the device started and has not settled; one that was canceled is not printed again
abbrev pub printed_by : (device : List ℕ) (found : Option Job) → Result Job Word
printed_by device None = Err NoJob
printed_by device (Some job) =
    if not (is_processing job.standing.state) then Err NotProcessing
    else if is_bound_elsewhere job.standing.device device then Err OtherDevice
    else if job.standing.stopping then Err Stopping
    else Ok job

-- as they were handed out at its start
abbrev pub handed_again : (room : RoomValue) (job : Job) → Reply
handed_again room job =
    reply.Documents (map (part_of job.standing.copies) (documents_of room job.job))

-- ---- the answers

abbrev pub waiting_told : (room : RoomValue) (devices : Devices) (device : List ℕ) → Reply
waiting_told room devices device = said_or (known_device (get devices device))
    (λ _. reply.Line (jobs_text (waiting_at room device)))

abbrev pub again_told :
    (room : RoomValue) (devices : Devices) (device : List ℕ) (number : ℕ) → Reply
again_told room devices device number = said_or
    (and_then (known_device (get devices device)) (λ _. printed_by device (get room.jobs number)))
    (handed_again room)
