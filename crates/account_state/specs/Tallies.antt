-- What is counted of jobs, one after another, and within what bounds (all this project's own). What
-- the sums of a room are stands in Sums.
use Rattle.std.specs.Prelude.{ℕ, ◌+◌, Bool, ◌&&◌, ◌||◌, nat_le, if◌then◌else◌, List, count_by, Option, Some, None}
use Rattle.std.specs.List.{sum_by, list_any}
use Rattle.account_rules.specs.JobStates.{is_unfinished, is_processing}
use Rattle.account_rules.specs.Limits.{most_unfinished, most_units}
use Rattle.account_rules.specs.declared.job.Job.{Job}
use Rattle.account_rules.specs.declared.job.JobState.{JobState}
use Rattle.account_state.specs.declared.tally.Tally.{Tally}

-- of all the jobs of a list
abbrev pub tally_of : List Job → Tally
tally_of jobs = record {
  unfinished = count_by (λ job. is_unfinished job.standing.state) jobs;
  is_processing = list_any (λ job. is_processing job.standing.state) jobs;
  reserved = sum_by (λ job. job.standing.reserved) jobs;
  charged = sum_by (λ job. job.standing.charged) jobs;
}

-- one job more, of which its state is counted, and the units that it reserves and was charged
abbrev pub counted : (tally : Tally) (state : JobState) (reserved charged : ℕ) → Tally
counted tally state reserved charged = record {
  unfinished = tally.unfinished + (if is_unfinished state then 1 else 0);
  is_processing = tally.is_processing || is_processing state;
  reserved = tally.reserved + reserved;
  charged = tally.charged + charged;
}

abbrev pub is_in_bounds : Tally → Bool
is_in_bounds tally =
    nat_le tally.unfinished most_unfinished
    && nat_le tally.reserved most_units
    && nat_le tally.charged most_units

-- one job more, unless the count or a sum would pass its bound
abbrev pub counted_in_bounds : (tally : Tally) (state : JobState)
    (reserved charged : ℕ) → Option Tally
counted_in_bounds tally state reserved charged =
    if is_in_bounds (counted tally state reserved charged)
    then Some (counted tally state reserved charged)
    else None
