-- The month of a moment is the calendar's (RFC 3339 section 1; that months are numbered by the year
-- times 12, and 0 for January to 11 for December, is this project's own).
use Rattle.std.specs.Prelude.{◌≡◌, ℕ, ◌+◌, ◌≤◌, ◌/◌, pos, ◌+ℤ◌, ◌*ℤ◌}
use Rattle.jiff_core.specs.Date.{epoch_day}
use Rattle.jiff_core.specs.declared.civil.date.Date.{Date}
use Rattle.account_rules.specs.Months.{month_at}

-- Up to the end of 2099 a moment lies in the month of the date whose day it is. Days have 86400
-- seconds and are counted from 0 for 1970-01-01, by the Gregorian calendar in UTC.
abbrev pub MonthsAreTheCalendars : Type 0
MonthsAreTheCalendars =
    (now month : ℕ) (date : Date) → now ≤ 4102444799
    → epoch_day date ≡ pos (now / 86400)
    → pos (month + 1) ≡ (pos 12 *ℤ date.year) +ℤ pos date.month
    → month_at now ≡ month
