-- The event that an entry asks for, and its moment (all this project's own).
use Rattle.std.specs.Prelude.{ℕ}
use Rattle.account_machine.specs.Events.{PlainEvent, Timed, OfAccount, Ipp}
use Rattle.input_lines.specs.Actions.{event_of_action}
use Rattle.serve_peers.specs.declared.entry.Entry.{Entry}
use Rattle.serve_peers.specs.declared.entry.Entry.TheVariants as entry

abbrev pub event_of_entry : Entry → PlainEvent
event_of_entry (entry.Message moment account body) = OfAccount account (Ipp body)
event_of_entry (entry.Line line) = event_of_action line.action
event_of_entry (entry.Desk operator line) = event_of_action line.action

abbrev pub moment_at : Entry → ℕ
moment_at (entry.Message moment account body) = moment
moment_at (entry.Line line) = line.moment
moment_at (entry.Desk operator line) = line.moment

abbrev pub timed : Entry → Timed
timed entry = (moment_at entry, event_of_entry entry)
