-- The event that a record of a file of grants asks for (this project's own).
use Rattle.std.specs.Prelude.{ℕ, Option, None, Some}
use Rattle.account_machine.specs.declared.event.Event.{Event}
use Rattle.account_machine.specs.declared.event.Event.TheVariants.{Grant}
use Rattle.input_fields.specs.declared.grant_line.GrantLine.{GrantLine}
use Rattle.input_fields.specs.declared.grant_line.GrantLine.TheVariants.{Good, Bad}

-- a good record's grant at the moment, and none of a bad one
abbrev pub grant_event : (moment : ℕ) → GrantLine → Option (ℕ × Event)
grant_event moment (Good account month pages) = Some (moment, Grant account month pages)
grant_event moment (Bad number) = None
