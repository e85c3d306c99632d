-- Rule: The month of a moment in UTC, by the Gregorian calendar (RFC 3339 section 1; that months
-- are numbered by the year times 12, and 0 for January to 11 for December, is this project's own).
use Rattle.std.specs.Prelude.{◌≡◌, ℕ, zero, suc, ◌+◌, ◌-◌, ◌/◌, ◌%◌, pos, ◌+ℤ◌, ◌*ℤ◌, nat_le, if◌then◌else◌}
use Rattle.jiff_core.specs.declared.civil.date.Date.{Date}
use Rattle.jiff_core.specs.Calendar.{day_count}
use Rattle.jiff_core.specs.Date.{epoch_day}
use Rattle.account_rules.specs.Limits.{first_month, last_month}

-- days are counted from 0 for 1970-01-01
abbrev pub day_of : ℕ → ℕ
day_of now = now / 86400

-- the month is that of the calendar's date with the moment's day number
pub record IsMonthOf (now month : ℕ) : Type 0 where
  pub date : Date
  pub day_number : epoch_day date ≡ pos (day_of now)
  pub number : pos (month + 1) ≡ (pos 12 *ℤ date.year) +ℤ pos date.month

-- the days from 1970-01-01 to the first day of the month
unfoldable pub days_before : ℕ → ℕ
days_before month = day_count (pos (month / 12)) (month % 12 + 1) 1 - day_count (pos 1970) 1 1

-- of January 1970 and so many months after it, the last that begins by the day
unfoldable pub last_begun : (later day : ℕ) → ℕ
last_begun zero day = first_month
last_begun (suc later) day =
    if nat_le (days_before (first_month + suc later)) day
    then first_month + suc later
    else last_begun later day

-- the same month, computed: the last one that has begun
unfoldable pub month_at : ℕ → ℕ
month_at now = last_begun (last_month - first_month) (day_of now)
