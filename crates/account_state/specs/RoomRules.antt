-- The rules that each room keeps (all this project's own).
use Rattle.std.specs.Prelude.{◌≡◌, ℕ, ◌<◌, ◌≤◌, Bool, false, ◌&&◌, nat_le, List, [], ◌∷◌, length, count_by, Option, Some, None, is_some}
use Rattle.std.specs.List.{AllByRecursion}
use Rattle.std.specs.FinMap.{get, values}
use Rattle.account_rules.specs.declared.job.Job.{Job}
use Rattle.account_rules.specs.declared.job.Document.{Document}
use Rattle.account_rules.specs.JobStates.{is_unfinished}
use Rattle.account_rules.specs.Limits.{first_month, last_month, last_next_job, most_unfinished, most_pages, longest_job_name, longest_password, longest_document, IsMoment}
use Rattle.account_rules.specs.Standings.{IsStanding}
use Rattle.account_state.specs.Rooms.{RoomValue}

abbrev pub unfinished_count : RoomValue → ℕ
unfinished_count room = count_by (λ job. is_unfinished job.standing.state) (values room.jobs)

-- a job under its number, which is below the next
pub record IsJobAt (next number : ℕ) (job : Job) : Type 0 where
  pub numbered : job.job ≡ number
  pub from_one : 1 ≤ number
  pub below_next : number < next
  pub name_fits : length job.name ≤ longest_job_name
  pub password_fits : length job.password ≤ longest_password
  pub standing : IsStanding job.standing

-- a document at its place
pub record IsDocumentAt (place : ℕ × ℕ) (document : Document) : Type 0 where
  pub of_job : document.job ≡ place.0
  pub numbered : document.number ≡ place.1
  pub fits : length document.bytes ≤ longest_document

-- an unfinished job has its documents 1 to n, n being how many it was given, and no other job has
-- any
abbrev pub has_document : (job : Option Job) (number : ℕ) → Bool
has_document None number = false
has_document (Some job) number =
    is_unfinished job.standing.state && nat_le 1 number && nat_le number job.standing.documents

pub record IsGrant (month pages : ℕ) : Type 0 where
  pub from_first : first_month ≤ month
  pub to_last : month ≤ last_month
  pub pages_fit : pages ≤ most_pages

pub record IsRoom (room : RoomValue) : Type 0 where
  pub opened_in_range : IsMoment room.opened
  pub next_from_one : 1 ≤ room.next
  pub next_in_range : room.next ≤ last_next_job
  pub jobs : (number : ℕ) (job : Job) →
      get room.jobs number ≡ Some job → IsJobAt room.next number job
  pub few_unfinished : unfinished_count room ≤ most_unfinished
  pub documents : (place : ℕ × ℕ) (document : Document) →
      get room.documents place ≡ Some document → IsDocumentAt place document
  pub all_documents : (job number : ℕ) →
      is_some (get room.documents (job, number)) ≡ has_document (get room.jobs job) number
  pub grants : (month pages : ℕ) → get room.grants month ≡ Some pages → IsGrant month pages

-- jobs in the order of their numbers
abbrev pub NumbersRise : List Job → Type 0
NumbersRise [] = Unit {0}
NumbersRise (job ∷ jobs) = AllByRecursion (λ later. job.job < later.job) jobs × NumbersRise jobs
