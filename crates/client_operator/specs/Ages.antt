-- Rule: Whether a moment lies so many days ago (this project's own).
use Rattle.std.specs.Prelude.{ℕ, ◌+◌, ◌*◌, Bool, nat_le}

-- at least so many days of 86400 seconds before now
abbrev pub is_as_old : (moment days now : ℕ) → Bool
is_as_old moment days now = nat_le (moment + days * 86400) now
