-- Laws: what the page of an owner offers goes through, and costs what it says.
use Rattle.std.specs.Prelude.{◌≡◌, ◌≤◌, ℕ, ℤ, List, not, ◌==◌, length, IsOk, Result, Ok, Err}
use Rattle.account_rules.specs.Acts.{HoldJob, ReleaseJob, StationRelease}
use Rattle.account_rules.specs.Limits.{most_need}
use Rattle.account_rules.specs.Moves.{move}
use Rattle.account_rules.specs.declared.job.Job.{Job}
use Rattle.account_rules.specs.declared.job.JobState.TheVariants.{Held}
use Rattle.account_rules.specs.declared.job.Standing.{Standing}
use Rattle.account_rules.specs.declared.refusal.Refusal.{Refusal}
use Rattle.page_pages.specs.Offers.{price}
use Rattle.page_pages.specs.Phases.{phase_of}
use Rattle.page_pages.specs.Waiting.{cancel_button, job_acts, job_form, release_buttons}
use Rattle.page_pages.specs.declared.offer.Terms.{Terms}
use Rattle.page_pages.specs.declared.phase.Phase.TheVariants.{Released}

abbrev pub release_of : (left : ℤ) → Job → Result Standing Refusal
release_of left job = move (ReleaseJob (not (length job.password == 0)) left) job.standing

-- The form of a job that is held has the button Release exactly where its owner's release goes
-- through, with the units that it then reserves.
pub record ButtonsRelease : Type 0 where
  pub released : (account : List ℕ) (terms : Terms) (job : Job) (standing : Standing)
      → job.standing.state ≡ Held → release_of terms.left job ≡ Ok standing
      → job_acts account terms job
      ≡ job_form account job.job (release_buttons standing.reserved job.job)
  pub refused : (account : List ℕ) (terms : Terms) (job : Job) (refusal : Refusal)
      → job.standing.state ≡ Held → release_of terms.left job ≡ Err refusal
      → job_acts account terms job ≡ job_form account job.job (cancel_button job.job)

-- a price at a rate is what a release at a device of that rate reserves, where it is told no pages
abbrev pub PricesAreReserved : Type 0
PricesAreReserved = (kept device given : List ℕ) (rate : ℕ) (left : ℤ) (s standing : Standing)
    → move (StationRelease kept device given 0 rate left) s ≡ Ok standing
    → standing.reserved ≤ most_need → price s rate ≡ standing.reserved

-- a job whose owner is offered to hold it is held
abbrev pub HoldsGoThrough : Type 0
HoldsGoThrough = (job : Job) → phase_of job ≡ Released → IsOk (move HoldJob job.standing)
