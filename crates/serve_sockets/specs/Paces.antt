-- The time that deadlines go by (this project's own), in milliseconds.
use Rattle.std.specs.Prelude.{ℕ, ◌+◌, ◌-◌, nat_lt, if◌then◌else◌}
use Rattle.serve_sockets.specs.declared.pace.Pace.{Pace}

abbrev pub counted_of : Pace → ℕ
counted_of pace = pace.counted

abbrev pub most_at_once : ℕ
most_at_once = 1000

-- what counts between two looks at a clock: a second at most, and nothing where it went back
abbrev pub counts : (before seen : ℕ) → ℕ
counts before seen =
    if nat_lt most_at_once (seen - before) then most_at_once else seen - before

abbrev pub after_look : (pace : Pace) (seen : ℕ) → Pace
after_look pace seen =
    record { counted = pace.counted + counts pace.seen seen; seen = seen }
