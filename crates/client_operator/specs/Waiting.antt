-- Rule: What `waiting` asks and prints (this project's own).
use Rattle.std.specs.Prelude.{◌≡◌, ℕ, Bool, true, ◌&&◌, if◌then◌else◌, bytes_eq, List, [], ◌∷◌, ◌++◌, codes, Option, None, Some}
use Rattle.std.specs.Str.Parse.{digits_value}
use Rattle.client_operator.specs.Ages.{is_as_old}
use Rattle.client_operator.specs.Asked.{account_asked}
use Rattle.client_operator.specs.Csv.{record_text}
use Rattle.client_operator.specs.Jobs.{Tells, waits}
use Rattle.client_operator.specs.Shown.{shown_text}
use Rattle.client_operator.specs.Talks.{At, AsksList, InTurn, Prints}
use Rattle.client_operator.specs.declared.job.TellsJob.{TellsJob}
use Rattle.client_operator.specs.declared.waiting.Age.{Age}

-- made at least so many days before now, where an age is asked for
abbrev pub is_of_age : (days : Option ℕ) (now made : ℕ) → Bool
is_of_age None now made = true
is_of_age (Some days) now made = is_as_old made days now

-- the job waits, and is of the age
abbrev pub is_chosen : (age : Age) (job : TellsJob) → Bool
is_chosen age job = waits job.state.now && is_of_age age.days age.now (digits_value 10 job.made.now)

-- the word, where `-` becomes an empty field
abbrev pub or_empty : List ℕ → List ℕ
or_empty word = if bytes_eq word (codes "-") then [] else word

abbrev pub waiting_head : List (List ℕ)
waiting_head = codes "account" ∷ codes "job" ∷ codes "state" ∷ codes "device" ∷ codes "made"
    ∷ codes "password" ∷ codes "copies" ∷ codes "impressions" ∷ codes "documents"
    ∷ codes "name" ∷ []

abbrev pub job_fields : (account : List ℕ) (job : TellsJob) → List (List ℕ)
job_fields account job = account ∷ job.job.now ∷ job.state.now ∷ or_empty job.device.now
    ∷ job.made.now ∷ or_empty job.password.now ∷ job.copies.now ∷ job.impressions.now
    ∷ job.documents.now ∷ shown_text job.name.now ∷ []

-- behind the records that are there comes that of the job a line tells of, where it is chosen
pub record ListsJob (age : Age) (account line before after : List ℕ) : Type 0 where
  pub job : TellsJob
  pub tells : Tells line job
  pub lists : after ≡ before ++ (if is_chosen age job then record_text (job_fields account job) else [])

-- the account's jobs were asked for, and the records of those that are chosen printed, in order
pub record ListsAccount (age : Age) (account : List ℕ) (from to : At) : Type 0 where
  pub lines : List (List ℕ)
  pub records : List ℕ
  pub mid : At
  pub asks : AsksList from mid (account_asked (codes "jobs ") account) lines
  pub lists : InTurn (ListsJob age account) [] records lines
  pub prints : Prints mid to records
