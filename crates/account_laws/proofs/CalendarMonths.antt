-- The month of a moment is the calendar's.
use Rattle.account_rules.proofs.MonthLemmas.{month_at_is}
use Rattle.account_laws.specs.CalendarMonths.{MonthsAreTheCalendars}

pub months_are_the_calendars : MonthsAreTheCalendars
months_are_the_calendars now month date low day number = month_at_is now month low (record { date = date; day_number = day; number = number })
