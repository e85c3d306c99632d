-- Your page offers the release of a job exactly where that would be done, for the units that the job
-- then reserves (all this project's own).
use Rattle.std.specs.Prelude.{◌≡◌, ℕ, Bool, true, false, List, Option, Some, Ok}
use Rattle.std.specs.FinMap.{get}
use Rattle.account_asks.specs.Asks.{PlainAsk, ask_of}
use Rattle.account_asks.specs.declared.operation.Operation.TheVariants.{ReleaseJob}
use Rattle.account_laws.specs.Told.{is_successful}
use Rattle.account_machine.specs.Events.{OfAccount, Ipp}
use Rattle.account_machine.specs.Machine.{answered_open}
use Rattle.account_machine.specs.Steps.{Step}
use Rattle.account_questions.specs.Pages.{owner_of}
use Rattle.account_rules.specs.Devices.{Devices}
use Rattle.account_rules.specs.Months.{month_at}
use Rattle.account_rules.specs.declared.job.Job.{Job}
use Rattle.account_rules.specs.declared.job.JobState.TheVariants.{Held}
use Rattle.account_state.specs.Rooms.{RoomValue}
use Rattle.page_pages.specs.Owners.{terms_of}
use Rattle.page_pages.specs.Waiting.{cancel_button, job_acts, job_form, release_buttons}
use Rattle.page_pages.specs.declared.outcome.Outcome.{Outcome}
use Rattle.page_pages.specs.declared.owner.Owner.{Owner}

-- the request of the button: Release-Job of the job (RFC 8011 section 4.3.6)
pub record ReleasesJob (account body : List ℕ) (number : ℕ) : Type 0 where
  pub ask : PlainAsk
  pub asks : ask_of account body ≡ Ok ask
  pub releases : ask.operation ≡ ReleaseJob
  pub of_job : ask.job ≡ number

-- the form in the job's row
abbrev pub form_on : (page : Owner) → Job → List ℕ
form_on page job = job_acts page.account (terms_of page) job

-- its button Release has the units that the job reserves afterwards
pub record OffersRelease (page : Owner) (job : Job) (afterwards : RoomValue) : Type 0 where
  pub released : Job
  pub is_there : get afterwards.jobs job.job ≡ Some released
  pub offers : form_on page job
      ≡ job_form page.account job.job (release_buttons released.standing.reserved job.job)

-- it has the button Cancel alone
abbrev pub OffersNoRelease : (page : Owner) → Job → Type 0
OffersNoRelease page job =
    form_on page job ≡ job_form page.account job.job (cancel_button job.job)

abbrev pub OffersAsAnswered : (page : Owner) → Job → Step → Type 0
OffersAsAnswered page job step = (is_successful step.reply ≡ true → OffersRelease page job step.room)
    × (is_successful step.reply ≡ false → OffersNoRelease page job)

-- the page of a moment, and the request at the same moment
abbrev pub ReleasesAreOffered : Type 0
ReleasesAreOffered = (room : RoomValue) (devices : Devices) (now : ℕ) (account body : List ℕ)
    (outcome : Option Outcome) (stays needs_password : Bool) (job : Job)
    → get room.jobs job.job ≡ Some job → job.standing.state ≡ Held
    → ReleasesJob account body job.job
    → OffersAsAnswered (owner_of account (month_at now) outcome stays needs_password room devices)
    job (answered_open room devices now (OfAccount account (Ipp body)))
