-- Rule: How long a connection may take, in ticks of a millisecond (all this project's own).
use Rattle.std.specs.Prelude.{ℕ, ◌+◌, ◌-◌, Bool, nat_lt, if◌then◌else◌}
use Rattle.serve_peers.specs.declared.patience.Doing.{Doing}
use Rattle.serve_peers.specs.declared.patience.Doing.TheVariants.{Holds, Leaves, Moves, Rests}
use Rattle.serve_peers.specs.declared.patience.Patience.{Patience}

abbrev pub doing_of : Patience → Doing
doing_of patience = patience.doing

abbrev pub since_of : Patience → ℕ
since_of patience = patience.since

-- a minute where nothing was begun, or for room; 10 seconds for what was begun, or for a piece of
-- it, and to part
abbrev pub most_of : Doing → ℕ
most_of Rests = 60000
most_of (Moves moved) = 10000
most_of Holds = 60000
most_of Leaves = 10000

abbrev pub is_over : (patience : Patience) (ticks : ℕ) → Bool
is_over patience ticks = nat_lt (most_of patience.doing) (ticks - patience.since)

-- no whole piece has moved for a quarter of a second
abbrev pub is_slow : (patience : Patience) (ticks : ℕ) → Bool
is_slow patience ticks = nat_lt 250 (ticks - patience.since)

-- so much of a piece has moved: 163840 bytes are a whole one, which gives the time anew
abbrev pub moving : (since moved ticks : ℕ) → Patience
moving since moved ticks =
    if nat_lt moved 163840 then record { since = since; doing = Moves moved }
    else record { since = ticks; doing = Moves 0 }

abbrev pub moving_from : (doing : Doing) (since count ticks : ℕ) → Patience
moving_from Rests since count ticks = moving ticks count ticks
moving_from (Moves before) since count ticks = moving since (before + count) ticks
moving_from Holds since count ticks = moving ticks count ticks
moving_from Leaves since count ticks = record { since = since; doing = Leaves }

-- so many bytes more came or went
abbrev pub after_moving : (patience : Patience) (count ticks : ℕ) → Patience
after_moving patience count ticks = moving_from patience.doing patience.since count ticks

abbrev pub holding_from : (doing : Doing) (since ticks : ℕ) → Patience
holding_from Holds since ticks = record { since = since; doing = Holds }
holding_from _ since ticks = record { since = ticks; doing = Holds }

-- it waits for room, since it first had to
abbrev pub after_holding : (patience : Patience) (ticks : ℕ) → Patience
after_holding patience ticks = holding_from patience.doing patience.since ticks

abbrev pub letting_on_from : (doing : Doing) (since ticks : ℕ) → Patience
letting_on_from Holds since ticks = record { since = ticks; doing = Moves 0 }
letting_on_from doing since ticks = record { since = since; doing = doing }

-- what waited for room goes on, and has its time anew
abbrev pub after_letting_on : (patience : Patience) (ticks : ℕ) → Patience
after_letting_on patience ticks = letting_on_from patience.doing patience.since ticks
