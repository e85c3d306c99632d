-- Rule: A survey: what the rows of one account come to for the print room's page (all this
-- project's own).
use Rattle.std.specs.Prelude.{◌≡◌, ℕ, ◌<◌, ◌≤◌, ◌-◌, ◌==◌, ◌&&◌, Bool, false, if◌then◌else◌, min, nat_le, Option, None, Some, slice_index}
use Rattle.std.specs.Option.{option_map_or}
use Rattle.std.specs.List.{sum_by}
use Rattle.std.specs.FinMap.{values}
use Rattle.page_markup.specs.Moments.{day_in_month}
use Rattle.account_state.specs.Summaries.{summary_of}
use Rattle.account_rules.specs.Limits.{last_moment, most_units}
use Rattle.account_rules.specs.Months.{month_at}
use Rattle.account_state.specs.Queues.{not_completed}
use Rattle.account_state.specs.Rooms.{RoomValue}
use Rattle.account_state.specs.Sums.{granted_to}
use Rattle.page_overview.specs.declared.days.TheConstants.{MOST_DAYS}
use Rattle.page_overview.specs.declared.survey.Survey.{Survey}

-- the place of a moment's day in its month, from 0, where that is this month
abbrev pub place_of_day : (month at : ℕ) → Option ℕ
place_of_day month at =
    if nat_le at last_moment && (month_at at == month) then Some (day_in_month at - 1) else None

-- it ended on the day of this place
abbrev pub is_on : (month place : ℕ) (ended : Option ℕ) → Bool
is_on month place None = false
is_on month place (Some at) = option_map_or (λ other. other == place) (place_of_day month at) false

-- the units that a job was charged count on the day on which it ended
abbrev pub charged_on : (month place : ℕ) (charged : ℕ) (ended : Option ℕ) → ℕ
charged_on month place charged ended = if is_on month place ended then charged else 0

-- a sum, or the greatest number where that is more
abbrev pub told : (sum : ℕ) → ℕ
told sum = min sum 18446744073709551615

-- what the account of this room comes to in the month
pub record IsSurvey (month : ℕ) (room : RoomValue) (it : Survey) : Type 0 where
  pub granted : it.granted ≡ granted_to room month
  pub summary : it.summary ≡ summary_of month (values room.jobs)
  pub days : (place : ℕ) → place < MOST_DAYS
      → slice_index it.days place ≡ told (sum_by
      (λ job. charged_on month place job.standing.charged job.standing.ended) (values room.jobs))
  pub unfinished : it.unfinished ≡ not_completed (values room.jobs)

-- no sum of it is more than units can be
pub record IsInBounds (it : Survey) : Type 0 where
  pub granted : it.granted ≤ most_units
  pub reserved : it.summary.reserved ≤ most_units
  pub charged : it.summary.charged ≤ most_units
