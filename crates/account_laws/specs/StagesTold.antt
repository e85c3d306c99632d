-- What answers tell of how a job stands, by its stage.
use Rattle.std.specs.Prelude.{ℕ, ◌==◌, if◌then◌else◌, Option, Some, None}
use Rattle.account_laws.specs.JobsTold.{Stage, Waits, IsFree, Prints, HasEnded}
use Rattle.account_rules.specs.declared.job.JobState.{JobState}
use Rattle.account_rules.specs.declared.job.JobState.TheVariants.{Held, Pending, Processing}

abbrev pub state_told : Stage → JobState
state_told Waits = Held
state_told (IsFree device rate units) = Pending
state_told (Prints device rate units since is_canceled) = Processing
state_told (HasEnded how count units since at) = how

abbrev pub started_told : Stage → Option ℕ
started_told (Prints device rate units since is_canceled) = Some since
started_told (HasEnded how count units since at) = since
started_told _ = None

abbrev pub ended_told : Stage → Option ℕ
ended_told (HasEnded how count units since at) = Some at
ended_told _ = None

-- the impressions that a device counted; where no unit was charged for them, none are shown
abbrev pub count_told : Stage → ℕ
count_told (HasEnded how count units since at) = if units == 0 then 0 else count
count_told _ = 0
