-- Rule: What a command does that ends well, and what it prints (all this project's own).
use Rattle.std.specs.Prelude.{◌≡◌, ℕ, false, All, List, [], ◌∷◌, codes, map, Option, None, Some}
use Rattle.std.specs.Io.KnownBytes.{Appends}
use Rattle.std.specs.List.{filter_map, flat_map}
use Rattle.sqlite.specs.Held.{Held}
use Rattle.sqlite_trees.specs.declared.store.Store.{Ghosts}
use Rattle.account_machine.specs.Events.{Timed, plain_timed}
use Rattle.input_fields.specs.declared.grant_line.GrantLine.{GrantLine}
use Rattle.input_fields.specs.GrantFiles.{is_too_large, records_of}
use Rattle.input_fields.specs.GrantLines.{grant_lines}
use Rattle.input_lines.specs.Actions.{event_of_action}
use Rattle.input_lines.specs.Lines.{IsAllowed}
use Rattle.input_lines.specs.Saying.{AreLinesOf}
use Rattle.input_lines.specs.declared.action.Action.{Action}
use Rattle.input_lines.specs.declared.action.Action.TheVariants as action
use Rattle.input_lines.specs.declared.line.Line.{Line}
use Rattle.input_lines.specs.declared.lines.Grammar.{Grammar}
use Rattle.input_lines.specs.declared.lines.Grammar.TheVariants as grammar
use Rattle.room_serve.specs.Runs.{AreApplied}
use Rattle.room_serve.specs.declared.outcome.Outcome.{Outcome}
use Rattle.cli_commands.specs.Grants.{grant_event}
use Rattle.cli_commands.specs.Outcomes.{first_failure, outcome_lines, records_text}
use Rattle.cli_words.specs.declared.command.Command.{Command}
use Rattle.cli_words.specs.declared.command.Command.TheVariants as command

-- what standard input may have had
abbrev pub Given : Type 1
Given = List ℕ → Type 0

-- the lines that it had
abbrev pub AreGiven : Given → Grammar → List Line → Type 0
AreGiven given grammar lines =
    (text : List ℕ) × given text × AreLinesOf grammar text lines × All (IsAllowed grammar) lines

-- the event of a line, at the line's moment
abbrev pub event_of_line : Line → Timed
event_of_line line = (line.moment, event_of_action line.action)

-- the records that it had, as a file of grants
abbrev pub AreRecords : Given → List GrantLine → Type 0
AreRecords given records = (file : List ℕ) × given file × (is_too_large file ≡ false)
    × (records ≡ grant_lines (records_of file))

-- the clock told a moment
abbrev pub At : (now : Option ℕ) (Does : (moment : ℕ) → Type 0) → Type 0
At now Does = (moment : ℕ) × (now ≡ Some moment) × Does moment

module _ {S : Type 0} (store : Ghosts S) (before after : Option (List ℕ)) where
  -- the events were applied to one store in order, and each was answered; this was printed of them
  pub record AppliesAndPrints (events : List Timed) (printed : List Outcome → List ℕ) : Type 0 where
    pub old : Held S
    pub new : Held S
    pub outcomes : List Outcome
    pub applied : AreApplied store events outcomes old new
    pub answered : first_failure outcomes ≡ None
    pub appends : Appends before after (printed outcomes)

  -- of the events of lines, what each came to
  abbrev pub RunsLines : List Timed → Type 0
  RunsLines events = AppliesAndPrints events (flat_map outcome_lines)

  -- of the lines of standard input
  abbrev pub RunsInput : Given → Grammar → Type 0
  RunsInput given grammar =
      (lines : List Line) × AreGiven given grammar lines × RunsLines (map event_of_line lines)

  -- of the grants of standard input, what each record came to
  abbrev pub RunsGrants : Given → (moment : ℕ) → Type 0
  RunsGrants given moment = (records : List GrantLine) × AreRecords given records
      × AppliesAndPrints (map plain_timed (filter_map (grant_event moment) records))
      (records_text 1 records)

  -- of one action at the clock's moment
  abbrev pub RunsAction : (now : Option ℕ) → Action → Type 0
  RunsAction now action = At now (λ moment. RunsLines ((moment, event_of_action action) ∷ []))

  -- What commands over one database do. What `explain` prints is not told, and the others need more
  -- than that.
  abbrev pub Runs : (now : Option ℕ) → Given → Command → Type 0
  Runs now given (command.Help text) = Appends before after text.bytes.items
  Runs now given command.Explain = Unit {0}
  Runs now given (command.Create database) = Appends before after (codes "ok\n")
  Runs now given (command.Migrate database) = Appends before after (codes "ok\n")
  Runs now given (command.Open database account) = RunsAction now (action.Open account)
  Runs now given (command.Device database name on) = RunsAction now (action.Device name on)
  Runs now given (command.Rate database name units) = RunsAction now (action.Rate name units)
  Runs now given (command.Grants database) = At now (RunsGrants given)
  Runs now given (command.Station database) =
      At now (λ moment. RunsInput given (grammar.Station moment))
  Runs now given (command.Script database) = RunsInput given grammar.Script
  Runs now given _ = ⊥
