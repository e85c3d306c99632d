-- Rule: Moments and months as a page shows them, in UTC: in words for readers, and as programs read
-- them.
use Rattle.std.specs.Prelude.{ℕ, ◌+◌, ◌-◌, ◌/◌, ◌%◌, ◌==◌, if◌then◌else◌, min, List, ◌++◌, codes, decimal}
use Rattle.account_rules.specs.Limits.{last_moment}
use Rattle.account_rules.specs.Months.{day_of, days_before, month_at}
use Rattle.page_markup.specs.declared.moment.TheConstants.{TIME_END, TIME_MIDDLE, TIME_START}
use Rattle.page_markup.specs.declared.texts.TheConstants.{APR, APRIL, AUG, AUGUST, DEC, DECEMBER, FEB, FEBRUARY, JAN, JANUARY, JUL, JULY, JUN, JUNE, MAR, MARCH, MAY, NOV, NOVEMBER, OCT, OCTOBER, SEP, SEPTEMBER}

-- ---- months

abbrev pub two_digits : ℕ → List ℕ
two_digits n = decimal (n / 10) ++ decimal (n % 10)

-- YYYY-MM, of the year times 12, and 0 for January to 11 for December
abbrev pub month_text : ℕ → List ℕ
month_text month = decimal (month / 12) ++ (codes "-" ++ two_digits (month % 12 + 1))

-- of the place of a month in its year, from 0
unfoldable pub month_name : ℕ → List ℕ
month_name place =
    if place == 0 then JANUARY.now
    else if place == 1 then FEBRUARY.now
    else if place == 2 then MARCH.now
    else if place == 3 then APRIL.now
    else if place == 4 then MAY.now
    else if place == 5 then JUNE.now
    else if place == 6 then JULY.now
    else if place == 7 then AUGUST.now
    else if place == 8 then SEPTEMBER.now
    else if place == 9 then OCTOBER.now
    else if place == 10 then NOVEMBER.now
    else DECEMBER.now

unfoldable pub short_month_name : ℕ → List ℕ
short_month_name place =
    if place == 0 then JAN.now
    else if place == 1 then FEB.now
    else if place == 2 then MAR.now
    else if place == 3 then APR.now
    else if place == 4 then MAY.now
    else if place == 5 then JUN.now
    else if place == 6 then JUL.now
    else if place == 7 then AUG.now
    else if place == 8 then SEP.now
    else if place == 9 then OCT.now
    else if place == 10 then NOV.now
    else DEC.now

-- as November 2026, of the year times 12, and 0 for January to 11 for December
unfoldable pub month_words : ℕ → List ℕ
month_words month = month_name (month % 12) ++ (codes " " ++ decimal (month / 12))

-- ---- days

-- the place of a moment's day in its month, from 1
unfoldable pub day_in_month : ℕ → ℕ
day_in_month now = day_of now + 1 - days_before (month_at now)

-- ---- moments

-- the hour and the minute, as 08:12
abbrev pub time_text : (hour minute : ℕ) → List ℕ
time_text hour minute =
    decimal (hour / 10)
    ++ (decimal (hour % 10)
    ++ (codes ":" ++ (decimal (minute / 10) ++ decimal (minute % 10))))

unfoldable pub clock_text : ℕ → List ℕ
clock_text now = time_text (now % 86400 / 3600) (now % 3600 / 60)

-- as 2026-11-27T08:12Z, which the HTML standard calls a global date and time (section 2.3.5.7)
unfoldable pub machine_text : ℕ → List ℕ
machine_text now =
    month_text (month_at now)
    ++ (codes "-"
    ++ (two_digits (day_in_month now) ++ (codes "T" ++ (clock_text now ++ codes "Z"))))

-- as 27 Nov 2026, 08:12
unfoldable pub readers_text : ℕ → List ℕ
readers_text now =
    decimal (day_in_month now)
    ++ (codes " "
    ++ (short_month_name (month_at now % 12)
    ++ (codes " " ++ (decimal (month_at now / 12) ++ (codes ", " ++ clock_text now)))))

unfoldable pub known_text : ℕ → List ℕ
known_text now =
    TIME_START.now
    ++ (machine_text now ++ (TIME_MIDDLE.now ++ (readers_text now ++ TIME_END.now)))

-- a moment past the last that the rules know is shown as that
abbrev pub moment_text : ℕ → List ℕ
moment_text at = known_text (min at last_moment)
