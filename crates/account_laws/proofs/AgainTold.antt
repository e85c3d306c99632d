-- A station that asks for documents again is answered by what was told.
use Rattle.std.proofs.Common.{◌≡◌, ℕ, Bool, true, false, cond, not, bytes_eq, List, [], ◌∷◌, Option, Some, None, option_map, Result, Ok, Err, refl, sym, ap, ◌∙◌}
use Rattle.std.specs.Prelude.{is_none}
use Rattle.std.specs.FinMap.{get}
use Rattle.std.specs.Option.{option_map_or}
use Rattle.account_laws.proofs.AsTold.{leaves_as_told}
use Rattle.account_laws.proofs.DocumentsOfJobs.{AreOfJobs, RoomHasOfJobs, has_of_jobs}
use Rattle.account_laws.proofs.HandedAgain.{parts_as_told}
use Rattle.account_laws.proofs.ShownJobs.{processing_is}
use Rattle.account_laws.specs.AccountsTold.{AccountTold, account_told, rate_told}
use Rattle.account_laws.specs.AgainTold as law
use Rattle.account_laws.specs.AgainTold.{again_answer, again_checks}
use Rattle.account_laws.specs.JobsTold.{JobTold, Stage, Waits, IsFree, Prints, HasEnded}
use Rattle.account_laws.specs.RefusalTexts.{text_of}
use Rattle.account_laws.specs.Refusals.{Check, first_refusal}
use Rattle.account_laws.specs.StandsAsTold.{AccountStands, AreAsTold, IsAsTold, IsAt, StandsAsTold, device_told}
use Rattle.account_laws.specs.StationAnswers.{documents_told, job_checks, line_of, with_its_job}
use Rattle.account_machine.specs.Steps.{and_then}
use Rattle.account_machine.specs.declared.event.Reply.{Reply}
use Rattle.account_machine.specs.declared.event.Reply.TheVariants as reply
use Rattle.account_questions.specs.Questions.{answer_to}
use Rattle.account_questions.specs.Stations.{handed_again, printed_by, said_or}
use Rattle.account_questions.specs.declared.question.About.TheVariants.{Again}
use Rattle.account_questions.specs.declared.question.Question.TheVariants.{Account}
use Rattle.account_replies.specs.Stations.{known_device}
use Rattle.account_rules.specs.Devices.{Devices as DeviceMap}
use Rattle.account_rules.specs.Effects.{is_bound_elsewhere}
use Rattle.account_rules.specs.JobStates.{is_processing}
use Rattle.account_rules.specs.declared.device.Device.{Device}
use Rattle.account_rules.specs.declared.job.Job.{Job}
use Rattle.account_rules.specs.declared.refusal.Word.{Word}
use Rattle.account_rules.specs.declared.refusal.Word.TheVariants.{NoAccount, NoDevice, NoJob, NotProcessing, OtherDevice, Stopping}
use Rattle.account_state.specs.Rooms.{RoomValue}

module _ (told : AccountTold) (room : RoomValue) (stands : StandsAsTold told room) (of : AreOfJobs room.documents) (device : List ℕ) (number : ℕ) where
  -- ---- the job

  module _ (ticket : JobTold) (job : Job) (is : IsAsTold number ticket room job) where
    passed : (processing elsewhere stopping : Bool) → Result Job Word
    passed processing elsewhere stopping = cond (not processing) (Err NotProcessing) (cond elsewhere (Err OtherDevice) (cond stopping (Err Stopping) (Ok job)))

    by_tests : (processing elsewhere stopping : Bool) → is_processing job.standing.state ≡ processing
        → said_or (passed processing elsewhere stopping) (handed_again room) ≡ line_of (first_refusal ((not processing, NotProcessing) ∷ (elsewhere, OtherDevice) ∷ (stopping, Stopping) ∷ [])) (documents_told number ticket)
    unfolding passed
    by_tests false elsewhere stopping prints = refl
    by_tests true true stopping prints = refl
    by_tests true false true prints = refl
    by_tests true false false prints = ap reply.Documents (parts_as_told number ticket room job of is prints)

    so : (elsewhere stopping processing : Bool) → is_processing job.standing.state ≡ processing → is_bound_elsewhere job.standing.device device ≡ elsewhere → job.standing.stopping ≡ stopping
        → said_or (printed_by device (Some job)) (handed_again room) ≡ line_of (first_refusal ((not processing, NotProcessing) ∷ (elsewhere, OtherDevice) ∷ (stopping, Stopping) ∷ [])) (documents_told number ticket)
    unfolding passed
    so elsewhere stopping processing prints bound stops =
        (λ i. said_or (passed (prints i) (bound i) (stops i)) (handed_again room)) ∙ by_tests processing elsewhere stopping prints

    unprinted : is_processing job.standing.state ≡ false → said_or (printed_by device (Some job)) (handed_again room) ≡ reply.Line (text_of NotProcessing)
    unprinted isnt = ap (λ (processing : Bool). said_or (cond {A = Result Job Word} (not processing) (Err NotProcessing) (cond (is_bound_elsewhere job.standing.device device) (Err OtherDevice) (cond job.standing.stopping (Err Stopping) (Ok job)))) (handed_again room)) isnt

    by_stage : (stage : Stage) → IsAt stage job.standing → said_or (printed_by device (Some job)) (handed_again room) ≡ line_of (first_refusal (again_checks device stage)) (documents_told number ticket)
    by_stage Waits at = unprinted (processing_is Waits job.standing at)
    by_stage (IsFree for rate units) at = unprinted (processing_is (IsFree for rate units) job.standing at)
    by_stage (Prints by rate units since is_canceled) at =
        so (not (bytes_eq by device)) is_canceled true (ap is_processing at.state) (ap (λ (o : Option (List ℕ)). is_bound_elsewhere o device) at.bound) at.stopping
    by_stage (HasEnded how count units since ended) at = unprinted (processing_is (HasEnded how count units since ended) job.standing at)

  by_found : (ticket : Option JobTold) (job : Option Job) → AreAsTold number ticket room job
      → said_or (printed_by device job) (handed_again room)
      ≡ line_of (first_refusal (option_map_or (λ (job : JobTold). again_checks device job.stage) ticket ((true, NoJob) ∷ []))) (option_map_or (documents_told number) ticket (reply.Line (text_of NoJob)))
  by_found None job are = ap (λ (found : Option Job). said_or (printed_by device found) (handed_again room)) are
  by_found (Some ticket) None are = absurd are
  by_found (Some ticket) (Some job) are = by_stage ticket job are ticket.stage are.stage

  -- ---- the device

  by_device : (rate : ℕ) (decided : Result Job Word) (checks : List (Check Word)) (done : Reply) → said_or decided (handed_again room) ≡ line_of (first_refusal checks) done → (on : Option Bool)
      → said_or (and_then (known_device (option_map (λ (on : Bool). let it : Device = record { name = device; on = on; rate = rate } in it) on)) (λ _. decided)) (handed_again room) ≡ line_of (cond (is_none on) (Some NoDevice) (first_refusal checks)) done
  by_device rate decided checks done same None = refl
  by_device rate decided checks done same (Some on) = same

  abbrev checks_told : List (Check Word)
  checks_told = job_checks told number (λ (job : JobTold). again_checks device job.stage)

  abbrev done_told : Reply
  done_told = with_its_job told number (documents_told number)

  answered : (devices : DeviceMap) → ((name : List ℕ) → get devices name ≡ device_told told name)
      → said_or (and_then (known_device (get devices device)) (λ _. printed_by device (get room.jobs number))) (handed_again room) ≡ again_answer device number told
  answered devices known =
      ap (λ (found : Option Device). said_or (and_then (known_device found) (λ _. printed_by device (get room.jobs number))) (handed_again room)) (known device)
      ∙ by_device (rate_told told device) (printed_by device (get room.jobs number)) checks_told done_told (by_found (get told.jobs number) (get room.jobs number) (stands.jobs number)) (get told.on device)
      ∙ ap (λ (o : Option ℕ). line_of (cond (is_none o) (Some NoAccount) (cond (is_none (get told.on device)) (Some NoDevice) (first_refusal checks_told))) done_told) (sym stands.opened)

pub again_is_told : law.AgainIsTold
again_is_told account device number life room devices names is =
    let left = leaves_as_told life room devices is in
    by room left.account (has_of_jobs life room devices is) left.known
  where
    told : AccountTold
    told = account_told life

    by : (room : Option RoomValue) → AccountStands told room → RoomHasOfJobs room → ((name : List ℕ) → get devices name ≡ device_told told name) → answer_to (Account account (Again device number)) room devices names ≡ again_answer device number told
    by None was of known = ap (λ (o : Option ℕ). line_of (cond (is_none o) (Some NoAccount) (cond (is_none (get told.on device)) (Some NoDevice) (first_refusal (job_checks told number (λ (job : JobTold). again_checks device job.stage))))) (with_its_job told number (documents_told number))) (sym was.opened)
    by (Some room) stands of known = answered told room stands of device number devices known
