-- Rule: Moments as a printer tells them.
use Rattle.std.specs.Prelude.{ℕ, ◌+◌, ◌-◌, min, max, Option, Some, None, List}
use Rattle.ipp_coding.specs.Plain.{PlainValue}
use Rattle.account_rules.specs.Limits.{greatest_integer}
use Rattle.account_replies.specs.Attributes.{integer, no_value}
use Rattle.account_replies.specs.Places.{PlainPlace}

-- printer-up-time at the moment t: the seconds since the account was opened, counted from 1, within
-- 1 and the greatest integer (RFC 8011 section 5.4.29)
abbrev pub up : (at : PlainPlace) (t : ℕ) → ℕ
up at t = max 1 (min (t - at.opened + 1) greatest_integer)

-- no-value before the moment has come (RFC 8011 section 5.3.14)
abbrev pub moment_values : (at : PlainPlace) (moment : Option ℕ) → List PlainValue
moment_values at None = no_value
moment_values at (Some t) = integer (up at t)
