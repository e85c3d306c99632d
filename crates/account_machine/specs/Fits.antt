-- Rule: Which events lie within the limits (all this project's own).
use Rattle.std.specs.Prelude.{Bool, true, ◌&&◌, nat_le}
use Rattle.account_machine.specs.Events.{PlainEvent, OfAccount, OfDevice, Release, Settle, Grant, Rate}
use Rattle.account_rules.specs.Limits.{most_impressions, most_rate, most_pages, first_month, last_month}

abbrev pub fits : PlainEvent → Bool
fits (OfAccount account (Release device job password impressions)) =
    nat_le impressions most_impressions
fits (OfAccount account (Settle device job impressions failed)) =
    nat_le impressions most_impressions
fits (OfAccount account (Grant month pages)) =
    nat_le first_month month && nat_le month last_month && nat_le pages most_pages
fits (OfDevice device (Rate units)) = nat_le 1 units && nat_le units most_rate
fits _ = true
