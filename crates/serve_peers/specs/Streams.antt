-- What was read of a peer and written to it in a turn, where these bytes are known (all this
-- project's own).
use Rattle.std.specs.Prelude.{ℕ, List, Option}
use Rattle.std.specs.Io.KnownBytes.{Appends, Consumes}

-- what reads will still give of a peer, and what was written to it, where they are known
abbrev pub Ends : Type 0
Ends = Option (List ℕ) × Option (List ℕ)

-- these bytes came of a peer, and these went to it
abbrev pub Carry : (before after : Ends) (came went : List ℕ) → Type 0
Carry before after came went = Consumes before.0 after.0 came × Appends before.1 after.1 went
