-- What an account, a device and a job stand in the way of a line, as they were told of.
use Rattle.std.proofs.Common.{◌≡◌, ℕ, Bool, true, false, not, List, [], ◌∷◌, ◌++◌, Option, Some, None, option_map, is_none, unwrap_or, Result, Ok, Err, refl, sym, ap, ◌∙◌}
use Rattle.std.specs.FinMap.{get}
use Rattle.std.specs.Option.{option_map_or}
use Rattle.std.proofs.lemmas.Option.{none-some, same_Some}
use Rattle.account_laws.proofs.RefusalTexts.{text_alike}
use Rattle.account_laws.specs.AccountsTold.{AccountTold, rate_told}
use Rattle.account_laws.specs.JobsTold.{JobTold}
use Rattle.account_laws.specs.RefusalTexts.{text_of}
use Rattle.account_laws.specs.Refusals.{Check, first_refusal}
use Rattle.account_laws.specs.StandsAsTold.{AreAsTold, IsAsTold, device_told}
use Rattle.account_laws.specs.StationAnswers.{account_checks, device_checks, line_of, ready_checks}
use Rattle.account_machine.specs.JobActs.{job_or_refusal}
use Rattle.account_machine.specs.Stations.{by_word}
use Rattle.account_machine.specs.Steps.{Step, and_then, refusing_or}
use Rattle.account_machine.specs.declared.event.Reply.{Reply}
use Rattle.account_machine.specs.declared.event.Reply.TheVariants as reply
use Rattle.account_replies.specs.Stations.{known_device, ready_device}
use Rattle.account_rules.specs.Acts.{Act}
use Rattle.account_rules.specs.Devices.{Devices}
use Rattle.account_rules.specs.Moves.{move}
use Rattle.account_rules.specs.declared.device.Device.{Device}
use Rattle.account_rules.specs.declared.job.Job.{Job}
use Rattle.account_rules.specs.declared.job.Standing.{Standing}
use Rattle.account_rules.specs.declared.refusal.Refusal.{Refusal}
use Rattle.account_rules.specs.declared.refusal.Word.{Word}
use Rattle.account_rules.specs.declared.refusal.Word.TheVariants.{DeviceOff, NoAccount, NoDevice, NoJob}
use Rattle.account_state.specs.Rooms.{RoomValue}

-- ---- what was decided

-- the word of a refusal
abbrev pub refusal_in : {A : Type 0} → Result A Word → Option Word
refusal_in (Ok x) = None
refusal_in (Err word) = Some word

-- where the checks refuse what was refused, their word is told, and else what was done
pub told_by : (room : RoomValue) (next : Standing → Step) (done : Reply) (moved : Result Standing Refusal) (refused : Option Word) → refusal_in (by_word moved) ≡ refused → ((standing : Standing) → moved ≡ Ok standing → (next standing).reply ≡ done)
    → (refusing_or room (by_word moved) next).reply ≡ line_of refused done
told_by room next done (Ok standing) None same does = does standing refl
told_by room next done (Ok standing) (Some word) same does = absurd (none-some word same)
told_by room next done (Err refusal) None same does = absurd (none-some refusal.word (sym same))
told_by room next done (Err refusal) (Some word) same does = ap reply.Line (text_alike refusal.word ∙ ap text_of (same_Some refusal.word word same))

-- ---- the job

-- what comes of an act on the job, if it is there
abbrev pub acted_on : (room : RoomValue) (found : Option Job) (act : Job → Act) → Result Standing Word
acted_on room found act = by_word (and_then (job_or_refusal found) (λ (job : Job). move (act job) job.standing))

pub job_stands : (told : AccountTold) (room : RoomValue) (number : ℕ) (act : Job → Act) (next : Standing → Step) (checks : JobTold → List (Check Word)) (done : JobTold → Reply)
    → ((ticket : JobTold) (job : Job) → get told.jobs number ≡ Some ticket → get room.jobs number ≡ Some job → IsAsTold number ticket room job → (refusing_or room (by_word (move (act job) job.standing)) next).reply ≡ line_of (first_refusal (checks ticket)) (done ticket))
    → (ticket : Option JobTold) (found : Option Job) → get told.jobs number ≡ ticket → get room.jobs number ≡ found → AreAsTold number ticket room found
    → (refusing_or room (acted_on room found act) next).reply ≡ line_of (first_refusal (option_map_or checks ticket ((true, NoJob) ∷ []))) (option_map_or done ticket (reply.Line (text_of NoJob)))
job_stands told room number act next checks done does None None is there are = refl
job_stands told room number act next checks done does None (Some job) is there are = absurd (none-some job (sym are))
job_stands told room number act next checks done does (Some ticket) None is there are = absurd are
job_stands told room number act next checks done does (Some ticket) (Some job) is there are = does ticket job is there are

-- ---- the device

-- as it was told of
abbrev known_as : (told : AccountTold) (name : List ℕ) (on : Bool) → Device
known_as told name on = record { name = name; on = on; rate = rate_told told name }

-- one that has to be on
pub ready_stands : (told : AccountTold) (room : RoomValue) (devices : Devices) (device : List ℕ) (decide : Device → Result Standing Word) (next : Standing → Step) (rest : List (Check Word)) (done : Reply) → get devices device ≡ device_told told device
    → ((ready : Device) → ready_device (get devices device) ≡ Ok ready → ready.rate ≡ rate_told told device → (refusing_or room (decide ready) next).reply ≡ line_of (first_refusal rest) done)
    → (refusing_or room (and_then (ready_device (get devices device)) decide) next).reply ≡ line_of (first_refusal (ready_checks told device ++ rest)) done
ready_stands told room devices device decide next rest done known does = ap (λ (found : Option Device). (refusing_or room (and_then (ready_device found) decide) next).reply) known ∙ by (get told.on device) refl
  where
    by : (on : Option Bool) → get told.on device ≡ on
        → (refusing_or room (and_then (ready_device (option_map (known_as told device) on)) decide) next).reply ≡ line_of (first_refusal ((is_none on, NoDevice) ∷ (not (unwrap_or on false), DeviceOff) ∷ rest)) done
    by None is = refl
    by (Some false) is = refl
    by (Some true) is = does (known_as told device true) (ap ready_device (known ∙ ap (option_map (known_as told device)) is)) refl

-- one that has to be known
pub known_stands : (told : AccountTold) (room : RoomValue) (devices : Devices) (device : List ℕ) (decided : Result Standing Word) (next : Standing → Step) (rest : List (Check Word)) (done : Reply) → get devices device ≡ device_told told device
    → ((known : Device) → get devices device ≡ Some known → (refusing_or room decided next).reply ≡ line_of (first_refusal rest) done)
    → (refusing_or room (and_then (known_device (get devices device)) (λ (_ : Device). decided)) next).reply ≡ line_of (first_refusal (device_checks told device ++ rest)) done
known_stands told room devices device decided next rest done known does = ap (λ (found : Option Device). (refusing_or room (and_then (known_device found) (λ (_ : Device). decided)) next).reply) known ∙ by (get told.on device) refl
  where
    by : (on : Option Bool) → get told.on device ≡ on
        → (refusing_or room (and_then (known_device (option_map (known_as told device) on)) (λ (_ : Device). decided)) next).reply ≡ line_of (first_refusal ((is_none on, NoDevice) ∷ rest)) done
    by None is = refl
    by (Some on) is = does (known_as told device on) (known ∙ ap (option_map (known_as told device)) is)

-- ---- the account

pub opened_stands : (told : AccountTold) (opened : ℕ) (checks : List (Check Word)) (done : Reply) → told.opened ≡ Some opened → line_of (first_refusal checks) done ≡ line_of (first_refusal (account_checks told checks)) done
opened_stands told opened checks done is = ap (λ (o : Option ℕ). line_of (first_refusal ((is_none o, NoAccount) ∷ checks)) done) (sym is)

pub unopened_stands : (told : AccountTold) (checks : List (Check Word)) (done : Reply) → told.opened ≡ None → reply.Line (text_of NoAccount) ≡ line_of (first_refusal (account_checks told checks)) done
unopened_stands told checks done none = ap (λ (o : Option ℕ). line_of (first_refusal ((is_none o, NoAccount) ∷ checks)) done) (sym none)
