-- Rule: What the jobs and the grants of a room come to, in units of the quota and as counts (all
-- this project's own). How many jobs are unfinished stands in RoomRules.
use Rattle.std.specs.Prelude.{ℕ, ℤ, pos, Bool, nat_le, if◌then◌else◌}
use Rattle.std.specs.List.{sum_by, list_any}
use Rattle.std.specs.FinMap.{entries, values}
use Rattle.account_rules.specs.JobStates.{is_processing}
use Rattle.account_rules.specs.Months.{month_at}
use Rattle.account_rules.specs.Quota.{left_of}
use Rattle.account_state.specs.Rooms.{RoomValue}

abbrev pub has_processing : RoomValue → Bool
has_processing room = list_any (λ job. is_processing job.standing.state) (values room.jobs)

abbrev pub reserved_in : RoomValue → ℕ
reserved_in room = sum_by (λ job. job.standing.reserved) (values room.jobs)

abbrev pub charged_in : RoomValue → ℕ
charged_in room = sum_by (λ job. job.standing.charged) (values room.jobs)

-- the pages of a month (of an entry: the month, its pages) count from that month on
abbrev pub pages_by : (month : ℕ) (grant : ℕ × ℕ) → ℕ
pages_by month grant = if nat_le grant.0 month then grant.1 else 0

-- what was granted for the months up to the given one
abbrev pub granted_to : (room : RoomValue) (month : ℕ) → ℕ
granted_to room month = sum_by (pages_by month) (entries room.grants)

-- what is left of the quota at a moment
abbrev pub left_in : (room : RoomValue) (now : ℕ) → ℤ
left_in room now =
    left_of
    (pos (granted_to room (month_at now)))
    (pos (reserved_in room))
    (pos (charged_in room))
