-- The day of a date in its month, by the calendar's day numbers.
use Rattle.std.proofs.Common.{◌≡◌, ℕ, ◌+◌, ◌-◌, ◌*◌, ◌/◌, ◌%◌, ◌<◌, ◌≤◌, ⊎_elim, ℤ, pos, unsigned_abs, ◌≤ℤ◌, negsuc, arith, ap, sym, refl, ◌∙◌}
use Rattle.std.proofs.lemmas.Bool.{cases_lt}
use borrow.Author.Differences.{up, down}
use Rattle.jiff_core.specs.declared.civil.date.Date.{Date}
use Rattle.jiff_core.specs.Calendar.{day_count}
use Rattle.jiff_core.specs.Date.{epoch_day}
use Rattle.jiff_core.proofs.SignedLemmas.{signed_arith}
use Rattle.jiff_core.proofs.DateLemmas.{civil}
use Rattle.jiff_core.proofs.CalendarLemmas.{day_count-epoch, days_from_civil-day_count, day_count-day, day_count-lt_year, day_count-lt_month}
use Rattle.account_rules.specs.Months.{IsMonthOf, day_of, days_before}
use Rattle.account_rules.proofs.MonthLemmas.{month_at_is, since_1970}
use Rattle.page_markup.specs.Moments.{day_in_month}

count_from_epoch : (date : Date) (day : ℕ) → epoch_day date ≡ pos day → day_count date.year date.month date.day ≡ day + 4_371_953
count_from_epoch date day e = omega (arith, days_from_civil-day_count date.year date.month date.day, ap up e, ap down e)

natural : (y : ℤ) → pos 0 ≤ℤ y → y ≡ pos (unsigned_abs y)
natural (pos n) h = refl
natural (negsuc n) h = absurd (omega (arith, signed_arith))

-- no month from 1970 on begins before 1 January 1970
first_late : (year month : ℕ) → 1970 ≤ year → 1 ≤ month → 4_371_953 ≤ day_count (pos year) month 1
first_late year month old some =
    ⊎_elim
    (λ (later : 1970 < year). omega (arith, day_count-epoch, day_count-lt_year (pos 1970) 1 1 (pos year) month 1 ((omega arith, omega arith), (omega arith, omega arith), (omega arith, omega arith)) (omega arith) (omega (arith, signed_arith))))
    (λ (same : year ≤ 1970).
    let is : year ≡ 1970 = omega arith in
    ⊎_elim
    (λ (after : 1 < month). rw is (omega (arith, day_count-epoch, day_count-lt_month (pos 1970) 1 1 month 1 ((omega arith, omega arith), (omega arith, omega arith), (omega arith, omega arith)) (omega arith) after)))
    (λ (first : month ≤ 1).
    let one : month ≡ 1 = omega arith in
    rw (is, one) (omega (arith, day_count-epoch)))
    (cases_lt 1 month))
    (cases_lt 1970 year)

in_month : (date : Date) (year month day : ℕ) → 1970 ≤ year → date.year ≡ pos year → month + 1 ≡ 12 * year + date.month → epoch_day date ≡ pos day → day + 1 ≡ days_before month + date.day
unfolding days_before
in_month date year month day old whole number e =
    let of_year : month / 12 ≡ year = omega (arith, (civil date).1) in
    let of_month : month % 12 + 1 ≡ date.month = omega (arith, (civil date).1) in
    let first : day_count (pos (month / 12)) (month % 12 + 1) 1 ≡ day_count date.year date.month 1 =
    ap (λ y. day_count (pos y) (month % 12 + 1) 1) of_year ∙ ap (λ k. day_count (pos year) k 1) of_month ∙ ap (λ y. day_count y date.month 1) (sym whole) in
    omega (
      arith,
      first,
      first_late (month / 12) (month % 12 + 1) (omega arith) (omega arith),
      count_from_epoch date day e,
      day_count-epoch,
      (civil date).2.0,
      day_count-day date.year date.month 1 date.day (omega arith) (civil date).2.0,
    )

-- the day of the date that has the moment's day number
pub day_is : (now : ℕ) (date : Date) → now ≤ 4_102_444_799 → epoch_day date ≡ pos (day_of now) → date.day ≡ day_in_month now
unfolding day_in_month
day_is now date low e =
    let from : pos 1970 ≤ℤ date.year = since_1970 date (day_of now) e in
    let year : ℕ = unsigned_abs date.year in
    let whole : date.year ≡ pos year = natural date.year (omega (arith, signed_arith)) in
    let old : 1970 ≤ year = omega (arith, signed_arith, ap up whole, ap down whole) in
    let month : ℕ = 12 * year + date.month - 1 in
    let number : month + 1 ≡ 12 * year + date.month = omega (arith, (civil date).1) in
    let is : IsMonthOf now month = record { date = date; day_number = e; number = rw whole (ap pos number) } in
    omega (arith, in_month date year month (day_of now) old whole number e, ap days_before (month_at_is now month low is))
