use Rattle.std.proofs.Common.{◌≡◌, ℕ, ◌+◌, ◌<◌, ◌≤◌, length, slice_index}
use Rattle.page_overview.specs.Surveys.{told}
use Rattle.page_overview.proofs.overview.add_days.Given as goal

-- on the days so far all is added, and the others are as they were
abbrev pub invariant-loop-place : goal.invariant-loop-place
invariant-loop-place l =
    (length l.days ≡ 31)
    × ((place : ℕ) → place < l.place → slice_index l.days place ≡ told (slice_index l.fn.days place + slice_index l.more place))
    × ((place : ℕ) → l.place ≤ place → slice_index l.days place ≡ slice_index l.fn.days place)
