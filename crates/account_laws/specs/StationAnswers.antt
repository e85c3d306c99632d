-- What each line of a station is answered, by what was told before it (all this project's own).
use Rattle.std.specs.Prelude.{◌≡◌, ℕ, ◌*◌, ◌==◌, ℤ, pos, negsuc, Bool, true, false, not, ◌&&◌, ◌||◌, nat_lt, bytes_eq, codes, List, [], ◌∷◌, ◌++◌, length, map, Option, Some, None, is_none, unwrap_or}
use Rattle.std.specs.FinMap.{get}
use Rattle.std.specs.Fmt.{decimal, signed_decimal}
use Rattle.std.specs.Option.{option_map_or}
use Rattle.account_laws.specs.AccountsTold.{AccountTold, account_told, after_deed, left_told, rate_told}
use Rattle.account_laws.specs.Deeds.{Released, Settled}
use Rattle.account_laws.specs.JobsTold.{JobTold, Sent, Stage, Waits, IsFree, Prints, impressions_told, need_told}
use Rattle.account_laws.specs.RefusalTexts.{text_of}
use Rattle.account_laws.specs.Refusals.{Check, first_refusal}
use Rattle.account_laws.specs.SpelledAttributes.{media_type_of}
use Rattle.account_lives.specs.Lives.{Life, OfLives}
use Rattle.account_machine.specs.Events.{OfAccount, Release, Start, Settle}
use Rattle.account_machine.specs.declared.event.Reply.{Reply}
use Rattle.account_machine.specs.declared.event.Reply.TheVariants as reply
use Rattle.account_replies.specs.declared.part.Part.{Part}
use Rattle.account_rules.specs.declared.refusal.Word.{Word}
use Rattle.account_rules.specs.declared.refusal.Word.TheVariants.{DeviceOff, ImpressionsUnknown, Incomplete, NoAccount, NoDevice, NoJob, NotHeld, NotPending, NotProcessing, OtherDevice, Password, Quota, Rate}

-- ---- what every line shares

-- a refusal is told by its word
abbrev pub line_of : (refused : Option Word) (done : Reply) → Reply
line_of None done = done
line_of (Some word) done = reply.Line (text_of word)

-- a station speaks for a device that is known
abbrev pub device_checks : (told : AccountTold) (device : List ℕ) → List (Check Word)
device_checks told device = (is_none (get told.on device), NoDevice) ∷ []

-- and releases and starts jobs only while that is on
abbrev pub ready_checks : (told : AccountTold) (device : List ℕ) → List (Check Word)
ready_checks told device =
    (is_none (get told.on device), NoDevice)
    ∷ (not (unwrap_or (get told.on device) false), DeviceOff)
    ∷ []

-- of a job that is there
abbrev pub job_checks :
    (told : AccountTold) (number : ℕ) (checks : JobTold → List (Check Word)) → List (Check Word)
job_checks told number checks = option_map_or checks (get told.jobs number) ((true, NoJob) ∷ [])

-- of an account that was opened
abbrev pub account_checks : (told : AccountTold) (checks : List (Check Word)) → List (Check Word)
account_checks told checks = (is_none told.opened, NoAccount) ∷ checks

-- the job that is acted on, and what is told of it
abbrev pub with_its_job : (told : AccountTold) (number : ℕ) (done : JobTold → Reply) → Reply
with_its_job told number done =
    option_map_or done (get told.jobs number) (reply.Line (text_of NoJob))

-- ---- release

abbrev pub is_waiting : Stage → Bool
is_waiting Waits = true
is_waiting _ = false

-- so many units are more than what is left
abbrev pub is_past : (need : ℕ) (left : ℤ) → Bool
is_past need (pos left) = nat_lt left need
is_past need (negsuc below) = true

-- where the job has a password, it takes that one
abbrev pub is_wrong : (password given : List ℕ) → Bool
is_wrong password given = not (length password == 0) && not (bytes_eq password given)

-- what it needs on the device
abbrev pub need_at : (told : AccountTold) (device : List ℕ) (handed_in : ℕ) (job : JobTold) → ℕ
need_at told device handed_in job =
    need_told (impressions_told handed_in job) (rate_told told device) job

-- The job is held; it is closed and has a document; the password is its own; its impressions are
-- known; and what it needs is left.
abbrev pub release_checks :
    (told : AccountTold) (now : ℕ) (device password : List ℕ) (handed_in : ℕ) (job : JobTold)
    → List (Check Word)
release_checks told now device password handed_in job =
    let need = need_at told device handed_in job in
    (not (is_waiting job.stage), NotHeld)
    ∷ (job.is_open || length job.documents == 0, Incomplete)
    ∷ (is_wrong job.maker.password password, Password)
    ∷ (impressions_told handed_in job == 0, ImpressionsUnknown)
    ∷ (is_past need (left_told told now), Quota need (left_told told now))
    ∷ []

-- what was reserved for it, and what is left then
abbrev pub release_answer :
    (told : AccountTold) (now : ℕ) (device : List ℕ) (number : ℕ) (password : List ℕ)
    (handed_in : ℕ) → Reply
release_answer told now device number password handed_in =
    line_of
    (first_refusal
    (account_checks told
    (ready_checks told device
    ++ job_checks told number (release_checks told now device password handed_in))))
    (with_its_job told number (λ (job : JobTold). reply.Line
    (codes "ok reserved "
    ++ (decimal (need_at told device handed_in job)
    ++ (codes " left "
    ++ signed_decimal (left_told (after_deed now told (Released device number handed_in)) now))))))

-- ---- start

-- The job is released, for this device or for any; one that was released for any is printed at
-- rate 1 alone.
abbrev pub start_checks : (told : AccountTold) (device : List ℕ) → Stage → List (Check Word)
start_checks told device (IsFree (Some bound) rate units) =
    (not (bytes_eq bound device), OtherDevice) ∷ []
start_checks told device (IsFree None rate units) =
    (not (rate_told told device == 1), Rate) ∷ []
start_checks told device _ = (true, NotPending) ∷ []

-- a document as a device is handed it: which job, how many copies, in which format, how long
abbrev pub part_told : (number copies : ℕ) → Sent → Part
part_told number copies sent = record {
  line = codes "document "
      ++ (decimal number
      ++ (codes " "
      ++ (decimal copies
      ++ (codes " "
      ++ (media_type_of sent.format ++ (codes " " ++ decimal (length sent.bytes)))))));
  bytes = sent.bytes;
}

-- all that was sent for the job, in order, with the copies that its maker asked for
abbrev pub documents_told : (number : ℕ) → JobTold → Reply
documents_told number job =
    reply.Documents (map (part_told number job.maker.copies) job.documents)

abbrev pub start_answer :
    (told : AccountTold) (device : List ℕ) (number : ℕ) → Reply
start_answer told device number =
    line_of
    (first_refusal
    (account_checks told
    (ready_checks told device
    ++ job_checks told number (λ (job : JobTold). start_checks told device job.stage))))
    (with_its_job told number (documents_told number))

-- ---- settle

-- the device that prints the job, and no other
abbrev pub settle_checks : (device : List ℕ) → Stage → List (Check Word)
settle_checks device (Prints by rate units since is_canceled) =
    (not (bytes_eq by device), OtherDevice) ∷ []
settle_checks device _ = (true, NotProcessing) ∷ []

-- what the device counted is charged at the rate of the release
abbrev pub charge_of : (count : ℕ) → Stage → ℕ
charge_of count (Prints by rate units since is_canceled) = count * rate
charge_of count _ = 0

-- what was charged for it, and what is left then
abbrev pub settle_answer :
    (told : AccountTold) (now : ℕ) (device : List ℕ) (number count : ℕ) (failed : Bool) → Reply
settle_answer told now device number count failed =
    line_of
    (first_refusal
    (account_checks told
    (device_checks told device
    ++ job_checks told number (λ (job : JobTold). settle_checks device job.stage))))
    (with_its_job told number (λ (job : JobTold). reply.Line
    (codes "ok charged "
    ++ (decimal (charge_of count job.stage)
    ++ (codes " left "
    ++ signed_decimal
    (left_told (after_deed now told (Settled device number count failed)) now))))))

-- ---- the laws

-- a station's release is answered so, wherever it stands in a life
abbrev pub ReleasesAreAnswered : Type 0
ReleasesAreAnswered = OfLives (λ life.
    (past later : Life) (now : ℕ) (account device : List ℕ) (number : ℕ) (password : List ℕ)
    (handed_in : ℕ) (said : Reply)
    → life ≡ past
    ++ ((now, OfAccount account (Release device number password handed_in)), said) ∷ later
    → said ≡ release_answer (account_told past) now device number password handed_in)

-- so is a start
abbrev pub StartsAreAnswered : Type 0
StartsAreAnswered = OfLives (λ life.
    (past later : Life) (now : ℕ) (account device : List ℕ) (number : ℕ) (said : Reply)
    → life ≡ past ++ ((now, OfAccount account (Start device number)), said) ∷ later
    → said ≡ start_answer (account_told past) device number)

-- and a settlement
abbrev pub SettlementsAreAnswered : Type 0
SettlementsAreAnswered = OfLives (λ life.
    (past later : Life) (now : ℕ) (account device : List ℕ) (number count : ℕ) (failed : Bool)
    (said : Reply)
    → life ≡ past
    ++ ((now, OfAccount account (Settle device number count failed)), said) ∷ later
    → said ≡ settle_answer (account_told past) now device number count failed)
