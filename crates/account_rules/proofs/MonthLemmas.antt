-- How the first days of months go with the calendar's day numbers.
use Rattle.std.proofs.Common.{◌≡◌, ℕ, zero, suc, ◌+◌, ◌*◌, ◌/◌, ◌%◌, ◌<◌, ◌≤◌, ⊎_elim, true, false, nat_le, ℤ, pos, negsuc, ◌≤ℤ◌, unsigned_abs, arith, ap, sym, refl, ◌∙◌, if◌then◌else◌}
use Rattle.std.proofs.lemmas.Int.{by_lt_z}
use Rattle.std.proofs.lemmas.Bool.{cases_lt}
use Rattle.std.proofs.lemmas.Bool.Decides.{nat_tests}
use borrow.Author.Differences.{up, down}
use Rattle.jiff_core.specs.declared.civil.date.Date.{Date}
use Rattle.jiff_core.specs.Calendar.{day_count}
use Rattle.jiff_core.specs.Date.{epoch_day}
use Rattle.jiff_core.proofs.SignedLemmas.{signed_arith}
use Rattle.jiff_core.proofs.DateLemmas.{civil}
use Rattle.jiff_core.proofs.CalendarLemmas.{day_count-epoch, days_from_civil-day_count, day_count-lt_year, day_count-lt_month, day_count-day, day_count-last_of_year}
use Rattle.jiff_core.proofs.MarchLemmas.{day_count-early}
use Rattle.account_rules.specs.Months.{IsMonthOf, day_of, days_before, last_begun, month_at}

-- the days from the calendar's begin to a date
count : Date → ℕ
count date = day_count date.year date.month date.day

count_from_epoch : (date : Date) (day : ℕ) → epoch_day date ≡ pos day → count date ≡ day + 4_371_953
unfolding count
count_from_epoch date day e = omega (arith, days_from_civil-day_count date.year date.month date.day, ap up e, ap down e)

-- no date before 1970 has a natural number
pub since_1970 : (date : Date) (day : ℕ) → epoch_day date ≡ pos day → pos 1970 ≤ℤ date.year
unfolding count
since_1970 date day e =
    by_lt_z date.year (pos 1970)
    (λ before. absurd (omega (arith, count_from_epoch date day e, day_count-epoch, day_count-lt_year date.year date.month date.day (pos 1970) 1 1 (civil date) (omega arith) before)))
    (λ since. since)

last_of_2099 : day_count (pos 2099) 12 31 ≡ 4_419_434
last_of_2099 =
    omega (arith, day_count-last_of_year (pos 2099), day_count-early (pos 2099) 12098 1 1 refl (omega arith) (omega arith) (omega arith))

-- no date after 2099 has a number so low
pub until_2099 : (date : Date) (day : ℕ) → epoch_day date ≡ pos day → day ≤ 47_481 → date.year ≤ℤ pos 2099
unfolding count
until_2099 date day e low =
    by_lt_z (pos 2099) date.year
    (λ after. absurd (omega (arith, count_from_epoch date day e, last_of_2099, day_count-lt_year (pos 2099) 12 31 date.year date.month date.day ((omega arith, omega arith), (omega arith, omega arith), (omega arith, omega arith)) (civil date).2.0 after)))
    (λ until. until)

natural : (y : ℤ) → pos 0 ≤ℤ y → y ≡ pos (unsigned_abs y)
natural (pos n) h = refl
natural (negsuc n) h = absurd (omega (arith, signed_arith))

-- a month has begun by each of its days
begun : (date : Date) (year month day : ℕ) → date.year ≡ pos year → month + 1 ≡ 12 * year + date.month → epoch_day date ≡ pos day → days_before month ≤ day
unfolding count days_before
begun date year month day whole number e =
    let of_year : month / 12 ≡ year = omega (arith, (civil date).1) in
    let of_month : month % 12 + 1 ≡ date.month = omega (arith, (civil date).1) in
    let first : day_count (pos (month / 12)) (month % 12 + 1) 1 ≡ day_count date.year date.month 1 =
    ap (λ y. day_count (pos y) (month % 12 + 1) 1) of_year ∙ ap (λ k. day_count (pos year) k 1) of_month ∙ ap (λ y. day_count y date.month 1) (sym whole) in
    omega (arith, first, count_from_epoch date day e, day_count-epoch, (civil date).2.0, day_count-day date.year date.month 1 date.day (omega arith) (civil date).2.0)

-- and no later one has
not_begun : (date : Date) (year month later day : ℕ) → date.year ≡ pos year → month + 1 ≡ 12 * year + date.month → epoch_day date ≡ pos day → month < later → day < days_before later
unfolding count days_before
not_begun date year month later day whole number e after =
    ⊎_elim
    (λ (next : year < later / 12).
    omega (
      arith,
      count_from_epoch date day e,
      day_count-epoch,
      day_count-lt_year date.year date.month date.day (pos (later / 12)) (later % 12 + 1) 1 (civil date) (omega arith) (omega (arith, signed_arith, ap up whole, ap down whole)),
    ))
    (λ (same_year : later / 12 ≤ year).
    let same : pos (later / 12) ≡ date.year = ap pos (omega (arith, (civil date).1)) ∙ sym whole in
    omega (
      arith,
      count_from_epoch date day e,
      day_count-epoch,
      ap (λ y. day_count y (later % 12 + 1) 1) same,
      day_count-lt_month date.year date.month date.day (later % 12 + 1) 1 (civil date) (omega arith) (omega (arith, (civil date).1)),
    ))
    (cases_lt year (later / 12))

is_begun : (a b : ℕ) → a ≤ b → nat_le a b ≡ true
is_begun a b h = grind (arith, nat_tests)

is_not_begun : (a b : ℕ) → b < a → nat_le a b ≡ false
is_not_begun a b h = grind (arith, nat_tests)

counted : (later : ℕ) (date : Date) (year month day : ℕ) → date.year ≡ pos year → month + 1 ≡ 12 * year + date.month → epoch_day date ≡ pos day →
    23640 ≤ month → month ≤ 23640 + later → last_begun later day ≡ month
unfolding last_begun
counted zero date year month day whole number e low high = omega arith
counted (suc later) date year month day whole number e low high =
    ⊎_elim
    (λ (before : month < 23640 + suc later).
    ap (λ b. if b then 23640 + suc later else last_begun later day) (is_not_begun _ day (not_begun date year month (23640 + suc later) day whole number e before))
    ∙ counted later date year month day whole number e low (omega arith))
    (λ (here : 23640 + suc later ≤ month).
    let same : month ≡ 23640 + suc later = omega arith in
    ap (λ b. if b then 23640 + suc later else last_begun later day) (is_begun _ day (rw (← same) (begun date year month day whole number e)))
    ∙ sym same)
    (cases_lt month (23640 + suc later))

-- the last month that has begun is the calendar's
pub month_at_is : (now month : ℕ) → now ≤ 4_102_444_799 → IsMonthOf now month → month_at now ≡ month
unfolding month_at
month_at_is now month low is =
    let year : ℕ = unsigned_abs is.date.year in
    let from : pos 1970 ≤ℤ is.date.year = since_1970 is.date (day_of now) is.day_number in
    let until : is.date.year ≤ℤ pos 2099 = until_2099 is.date (day_of now) is.day_number (omega arith) in
    let whole : is.date.year ≡ pos year = natural is.date.year (omega (arith, signed_arith)) in
    let number : month + 1 ≡ 12 * year + is.date.month = omega (arith, signed_arith, ap up is.number, ap down is.number, ap up whole, ap down whole) in
    let old : 1970 ≤ year = omega (arith, signed_arith, ap up whole, ap down whole) in
    let young : year ≤ 2099 = omega (arith, signed_arith, ap up whole, ap down whole) in
    counted 1559 is.date year month (day_of now) whole number is.day_number (omega (arith, (civil is.date).1)) (omega (arith, (civil is.date).1))
