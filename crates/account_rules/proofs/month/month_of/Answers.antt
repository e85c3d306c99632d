use Rattle.std.proofs.Common.{◌≡◌, ◌∙◌, sym, pos, arith, subst, ℤ, Result, IfOk, Ok}
use Rattle.std.proofs.lemmas.Int.{ints}
use Rattle.jiff_core.specs.declared.civil.date.Date.{Date}
use Rattle.jiff_core.specs.Date.{epoch_day}
use Rattle.account_rules.specs.Months.{IsMonthOf, day_of}
use Rattle.account_rules.proofs.MonthLemmas.{since_1970, month_at_is}
use Rattle.account_rules.proofs.month.month_of.Goals as goal

of_day : {E : Type 0} (told : Result Date E) (date : Date) (day : ℤ) → told ≡ Ok date → IfOk told (λ it. epoch_day it ≡ day) → epoch_day date ≡ day
of_day told date day is value = subst (λ (it : Result Date _). IfOk it (λ (of : Date). epoch_day of ≡ day)) is value

pub number-requires-clause-year : goal.number-requires-clause-year
number-requires-clause-year c =
    let day : epoch_day c.unwrap-date.result ≡ pos (day_of c.args.now) = of_day _ c.unwrap-date.result _ c.unwrap-date.ensures c.from_unix_epoch_day.ensures.value ∙ omega (arith, ints, c.seconds-day.ensures.value) in
    let since = since_1970 c.unwrap-date.result (day_of c.args.now) day in
    omega (arith, ints)

is_month : (c : goal.After-number) → IsMonthOf c.args.now c.number.result
is_month c = record {
  date = c.unwrap-date.result;
  day_number = of_day _ c.unwrap-date.result _ c.unwrap-date.ensures c.from_unix_epoch_day.ensures.value ∙ omega (arith, ints, c.seconds-day.ensures.value);
  number = omega (arith, ints, c.number.ensures);
}

pub returns-clause-calendar : goal.returns-clause-calendar
returns-clause-calendar c = is_month c

pub returns-clause-month : goal.returns-clause-month
returns-clause-month c = sym (month_at_is c.args.now c.number.result c.seconds-day.ensures.range (is_month c))
