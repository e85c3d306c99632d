-- Rule: The PIN of a job, as its owner types it (this project's own).
use Rattle.std.specs.Prelude.{ℕ, ◌+◌, ◌&&◌, if◌then◌else◌, nat_le, nat_lt, List, length, take, Option, Some, None}
use Rattle.std.specs.Io.BufRead.{strip_last, take_through}
use Rattle.account_rules.specs.Limits.{longest_password}

-- a line without the line feed that ends it, which may be a password
abbrev pub pin_in : (line : List ℕ) → Option (List ℕ)
pin_in line =
    let pin = strip_last 10 line in
    if nat_lt 0 (length pin) && nat_le (length pin) longest_password then Some pin else None

-- the first line of a text, of which no more is read than a password and a line feed are
abbrev pub pin_said : (text : List ℕ) → Option (List ℕ)
pin_said text = pin_in (take_through 10 (take (longest_password + 1) text))
