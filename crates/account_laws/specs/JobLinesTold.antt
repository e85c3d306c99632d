-- The lines that tell jobs, byte for byte, by what was told of them (all this project's own).
use Rattle.std.specs.Prelude.{ℕ, ◌+◌, ◌/◌, ◌%◌, ◌==◌, Bool, true, ◌&&◌, not, nat_le, nat_lt, bytes_eq, if◌then◌else◌, codes, List, [], ◌∷◌, ◌++◌, filter, length, take, Option, Some, None, is_none}
use Rattle.std.specs.FinMap.{get}
use Rattle.std.specs.Fmt.{decimal}
use Rattle.std.specs.List.{flat_map}
use Rattle.account_laws.specs.AccountsTold.{AccountTold}
use Rattle.account_laws.specs.JobsTold.{JobTold, Stage, Waits, IsFree, Prints, HasEnded, units_charged, units_reserved}
use Rattle.account_laws.specs.LinesTold.{IsAnswered, if_opened, lines_told}
use Rattle.account_laws.specs.ListedJobs.{Numbered, latest_first, unfinished_jobs}
use Rattle.account_laws.specs.RefusalTexts.{text_of}
use Rattle.account_laws.specs.StagesTold.{ended_told, started_told}
use Rattle.account_questions.specs.declared.question.About.TheVariants.{Ended, Jobs, Waiting}
use Rattle.account_questions.specs.declared.question.Question.TheVariants.{Account}
use Rattle.account_rules.specs.declared.job.JobState.{JobState}
use Rattle.account_rules.specs.declared.job.JobState.TheVariants.{Held, Pending, Processing, Canceled, Aborted, Completed}
use Rattle.account_rules.specs.declared.refusal.Word.TheVariants.{NoDevice}

-- ---- a job's line

-- how it ended; the first three are no ends
abbrev pub end_word : JobState → List ℕ
end_word Held = codes "held"
end_word Pending = codes "pending"
end_word Processing = codes "processing"
end_word Canceled = codes "canceled"
end_word Aborted = codes "aborted"
end_word Completed = codes "completed"

-- one that was canceled while it is printed stops
abbrev pub state_word : Stage → List ℕ
state_word Waits = codes "held"
state_word (IsFree device rate units) = codes "pending"
state_word (Prints device rate units since is_canceled) =
    if is_canceled then codes "stopping" else codes "processing"
state_word (HasEnded how count units since at) = end_word how

-- a dash stands for none
abbrev pub name_or_dash : Option (List ℕ) → List ℕ
name_or_dash None = codes "-"
name_or_dash (Some name) = name

abbrev pub moment_or_dash : Option ℕ → List ℕ
moment_or_dash None = codes "-"
moment_or_dash (Some at) = decimal at

-- whether it has one, and never which
abbrev pub password_or_dash : List ℕ → List ℕ
password_or_dash [] = codes "-"
password_or_dash (byte ∷ bytes) = codes "password"

-- of 0 to 15: `0` to `9`, then `A` to `F`
abbrev pub hexadecimal_digit : ℕ → ℕ
hexadecimal_digit digit = if nat_lt digit 10 then 48 + digit else 55 + digit

-- `!` to `~`, but for `%`
abbrev pub is_plain : ℕ → Bool
is_plain byte = nat_le 33 byte && nat_le byte 126 && not (byte == 37)

-- any other byte of a name is `%` and two hexadecimal digits
abbrev pub escaped_byte : ℕ → List ℕ
escaped_byte byte =
    if is_plain byte then byte ∷ []
    else 37 ∷ hexadecimal_digit (byte / 16 % 16) ∷ hexadecimal_digit (byte % 16) ∷ []

-- its number, its state, and its device
abbrev pub place_line : Numbered → List ℕ
place_line it =
    codes "job "
    ++ (decimal it.0
    ++ (codes " " ++ (state_word it.1.stage ++ (codes " " ++ name_or_dash it.1.device))))

-- when it was made, when a device began it, when it ended
abbrev pub moments_line : JobTold → List ℕ
moments_line job =
    codes " "
    ++ (decimal job.made
    ++ (codes " "
    ++ (moment_or_dash (started_told job.stage)
    ++ (codes " " ++ moment_or_dash (ended_told job.stage)))))

-- copies, impressions of one copy, units reserved and charged, documents
abbrev pub counts_line : JobTold → List ℕ
counts_line job =
    codes " "
    ++ (decimal job.maker.copies
    ++ (codes " "
    ++ (decimal job.impressions
    ++ (codes " "
    ++ (decimal (units_reserved job)
    ++ (codes " "
    ++ (decimal (units_charged job)
    ++ (codes " " ++ decimal (length job.documents)))))))))

abbrev pub job_line : Numbered → List ℕ
job_line it =
    place_line it
    ++ (moments_line it.1
    ++ (codes " "
    ++ (password_or_dash it.1.maker.password
    ++ (counts_line it.1 ++ (codes " " ++ flat_map escaped_byte it.1.maker.name)))))

abbrev pub jobs_lines : List Numbered → List ℕ
jobs_lines jobs = lines_told (codes "jobs") job_line jobs

-- ---- jobs that have not ended, by rising number

abbrev pub JobsAreTold : Type 0
JobsAreTold = (account : List ℕ) → IsAnswered (Account account Jobs) (λ told.
    if_opened told (jobs_lines (unfinished_jobs told)))

-- ---- jobs that have ended, the latest first

abbrev pub EndedAreTold : Type 0
EndedAreTold = (account : List ℕ) (most : ℕ) → IsAnswered (Account account (Ended most)) (λ told.
    if_opened told (jobs_lines (take most (latest_first told))))

-- ---- list, as a station asks

-- a job that is bound to this device, or to none
abbrev pub is_for : (device : List ℕ) → Option (List ℕ) → Bool
is_for device None = true
is_for device (Some bound) = bytes_eq bound device

abbrev pub waiting_at : (told : AccountTold) (device : List ℕ) → List Numbered
waiting_at told device =
    filter (λ (it : Numbered). is_for device it.1.device) (unfinished_jobs told)

abbrev pub WaitingIsTold : Type 0
WaitingIsTold = (account device : List ℕ)
    → IsAnswered (Account account (Waiting device)) (λ told.
    if_opened told (if is_none (get told.on device) then text_of NoDevice
    else jobs_lines (waiting_at told device)))
