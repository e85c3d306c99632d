-- Rule: The numbers that a line may say, whose lines they are, and the events that they ask for
-- (this project's own).
use Rattle.std.specs.Prelude.{ℕ, Bool, true, false, ◌&&◌, nat_le, Option, Some, None, unwrap_or}
use Rattle.account_machine.specs.Events as event
use Rattle.account_machine.specs.Events.{PlainEvent, OfAccount, OfDevice}
use Rattle.account_rules.specs.Limits.{may_be_job, most_impressions, first_month, last_month, most_pages, most_rate}
use Rattle.input_lines.specs.OwnerRequests.{request_text}
use Rattle.input_lines.specs.declared.action.Action.{Action}
use Rattle.input_lines.specs.declared.action.Action.TheVariants as action

-- impressions of a release, which a station may leave out
abbrev pub are_impressions : Option ℕ → Bool
are_impressions None = true
are_impressions (Some impressions) =
    nat_le 1 impressions && nat_le impressions most_impressions

abbrev pub is_in_range : Action → Bool
is_in_range (action.Open account) = true
is_in_range (action.Device name on) = true
is_in_range (action.Rate name units) = nat_le 1 units && nat_le units most_rate
is_in_range (action.Grant account month pages) =
    nat_le first_month month && nat_le month last_month && nat_le pages most_pages
is_in_range (action.Ipp account body) = true
is_in_range (action.Release device account job password impressions) =
    may_be_job job && are_impressions impressions
is_in_range (action.Start device account job) = may_be_job job
is_in_range (action.Settle device account job impressions failed) =
    may_be_job job && nat_le impressions most_impressions
is_in_range (action.Owner request) = may_be_job request.job

-- ---- whose line it is

abbrev pub is_of_station : Action → Bool
is_of_station (action.Release device account job password impressions) = true
is_of_station (action.Start device account job) = true
is_of_station (action.Settle device account job impressions failed) = true
is_of_station _ = false

abbrev pub is_of_operator : Action → Bool
is_of_operator (action.Open account) = true
is_of_operator (action.Device name on) = true
is_of_operator (action.Rate name units) = true
is_of_operator (action.Grant account month pages) = true
is_of_operator (action.Owner request) = true
is_of_operator _ = false

-- a script asks all that a line may but what is asked in the place of an owner
abbrev pub is_of_script : Action → Bool
is_of_script (action.Owner request) = false
is_of_script _ = true

-- ---- the event

abbrev pub event_of_action : Action → PlainEvent
event_of_action (action.Open account) = OfAccount account event.Open
event_of_action (action.Device name on) = OfDevice name (event.Switch on)
event_of_action (action.Rate name units) = OfDevice name (event.Rate units)
event_of_action (action.Grant account month pages) = OfAccount account (event.Grant month pages)
event_of_action (action.Ipp account body) = OfAccount account (event.Ipp body.items)
event_of_action (action.Release device account job password impressions) =
    OfAccount account (event.Release device job password.items (unwrap_or impressions 0))
event_of_action (action.Start device account job) = OfAccount account (event.Start device job)
event_of_action (action.Settle device account job impressions failed) =
    OfAccount account (event.Settle device job impressions failed)
event_of_action (action.Owner request) = OfAccount request.account
    (event.Ipp (request_text request.act request.account request.job))
