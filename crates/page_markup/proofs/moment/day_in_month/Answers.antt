use Rattle.std.proofs.Common.{◌≡◌, ◌∙◌, arith, subst, ℤ, Result, IfOk, Ok}
use Rattle.std.proofs.lemmas.Int.{ints}
use Rattle.jiff_core.specs.declared.civil.date.Date.{Date}
use Rattle.jiff_core.specs.Date.{epoch_day}
use Rattle.page_markup.proofs.Days.{day_is}
use Rattle.page_markup.proofs.moment.day_in_month.Goals as goal

of_day : {E : Type 0} (told : Result Date E) (date : Date) (day : ℤ) → told ≡ Ok date → IfOk told (λ it. epoch_day it ≡ day) → epoch_day date ≡ day
of_day told date day is value = subst (λ (it : Result Date _). IfOk it (λ (of : Date). epoch_day of ≡ day)) is value

pub returns : goal.returns
returns c =
    day_is c.args.now c.unwrap-date.result c.seconds-day.ensures.range (of_day _ c.unwrap-date.result _ c.unwrap-date.ensures c.from_unix_epoch_day.ensures.value ∙ omega (arith, ints, c.seconds-day.ensures.value))
