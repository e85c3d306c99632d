-- The log and the journal: the lines of the one are those of the other (all this project's own).
use Rattle.std.specs.Prelude.{◌≡◌, ℕ, Bool, false, List, Option, None, Some, if◌then◌else◌}
use Rattle.std.specs.List.{flat_map}
use Rattle.input_lines.specs.Actions.{is_of_station}
use Rattle.input_lines.specs.declared.action.Action.{Action}
use Rattle.serve_log.specs.LogLines.{line_text}
use Rattle.serve_log.specs.Waits.{drafts_of, is_behind, logged_of, missed_of}
use Rattle.serve_log.specs.declared.door.Door.{Door}
use Rattle.serve_log.specs.declared.door.Door.TheVariants.{Clients, Desk, Operators, Stations}
use Rattle.serve_log.specs.declared.waiting.Waiting.{Waiting}
use Rattle.serve_peers.specs.Entries.{event_of_entry, moment_at}
use Rattle.serve_peers.specs.Tolds.{Round, Told, kept_in}
use Rattle.serve_peers.specs.declared.entry.Entry.{Entry}
use Rattle.serve_peers.specs.declared.entry.Entry.TheVariants as entry

-- the door of those who may ask for an action
abbrev pub door_for : Action → Door
door_for action = if is_of_station action then Stations else Operators

-- where it came in
abbrev pub door_of : Entry → Door
door_of (entry.Message moment account body) = Clients
door_of (entry.Line line) = door_for line.action
door_of (entry.Desk operator line) = Desk operator

-- the line of what came and what it came to
abbrev pub line_of : Told → List ℕ
line_of told = line_text (moment_at told.0) (door_of told.0) (event_of_entry told.0) told.1

abbrev pub lines_of : List Told → List ℕ
lines_of more = flat_map line_of more

-- lines wait that the file of a log has not taken
abbrev pub log_lags : Option Waiting → Bool
log_lags None = false
log_lags (Some log) = is_behind log

-- Unless a line was left out, what the file has taken, and what waits for it, are the lines of the
-- rounds that were kept, in order, and nothing else; and those of the round that is under way stand
-- apart until it is settled.
pub record TellsRounds (waiting : Waiting) (rounds : List Round) (under_way : List Told) : Type 0 where
  pub logged : missed_of waiting ≡ 0 → logged_of waiting ≡ lines_of (kept_in rounds)
  pub drafts : missed_of waiting ≡ 0 → drafts_of waiting ≡ lines_of under_way
