-- Rule: What a line is answered, and what it does to the rooms (all this project's own).
use Rattle.std.specs.Prelude.{◌≡◌, ◌⊎◌, ◌==◌, ◌||◌, ◌+◌, ◌-◌, ◌^◌, ℕ, Bool, true, false, List, ◌∷◌, ◌++◌, [], codes, drop, length, min, take, Option, None, Some, IsTrue, Result}
use Rattle.std.specs.Io.KnownBytes.{Appends, Consumes}
use Rattle.std.specs.List.{flat_map, list_any, position, starts_with}
use Rattle.sqlite_trees.specs.declared.store.Store.{Ghosts}
use Rattle.account_machine.specs.declared.event.Reply.{Reply}
use Rattle.account_machine.specs.declared.verdict.Answered.{Answered}
use Rattle.page_markup.specs.Escaping.{is_control}
use Rattle.input_lines.specs.Lines.{IsAllowed}
use Rattle.input_lines.specs.Asking.{IsQuestionOf, is_of_station}
use Rattle.input_lines.specs.Backups.{IsBackupOf}
use Rattle.input_lines.specs.Saying.{IsLineOf}
use Rattle.input_lines.specs.declared.backup.BackupLine.{BackupLine}
use Rattle.input_lines.specs.declared.lines.Grammar.{Grammar}
use Rattle.input_lines.specs.declared.lines.Grammar.TheVariants as grammar_is
use Rattle.input_lines.specs.declared.line.Line.{Line}
use Rattle.account_questions.specs.declared.question.Question.{Question}
use Rattle.store_rounds.specs.declared.fault.StoreFault.{StoreFault}
use Rattle.serve_peers.specs.declared.backup.BackupTold.{BackupTold}
use Rattle.serve_peers.specs.declared.entry.Entry.{Entry}
use Rattle.serve_peers.specs.declared.entry.Entry.TheVariants as entry_is
use Rattle.serve_peers.specs.declared.line_connection.LineConnection.{LineConnection}
use Rattle.serve_peers.specs.declared.line_connection.Side.{Side}
use Rattle.serve_peers.specs.declared.line_connection.Side.TheVariants.{Bound, Operator, Station}
use Rattle.serve_peers.specs.declared.served.Served.{Served}
use Rattle.serve_peers.specs.Backups.{backup_text}
use Rattle.serve_peers.specs.Keeping.{AsksNext}
use Rattle.serve_peers.specs.Journals.{log_lags_of, moment_of, shares_of}
use Rattle.serve_peers.specs.Turns.{AnswersNext, AppliesNext}
use Rattle.serve_peers.specs.LineTexts.{answer_text, bad_line_text, has_to_warn, line_text, not_your_device_text}
use Rattle.serve_peers.specs.OwnDevices.{is_own}

-- ---- a connection

abbrev pub side_of : LineConnection → Side
side_of connection = connection.side

-- what came and was not answered yet
abbrev pub input_of : LineConnection → List ℕ
input_of connection = connection.input.items

-- nothing more is read on it: it has ended, or a line was too long
abbrev pub ended_of : LineConnection → Bool
ended_of connection = connection.has_ended

-- what waits to go
abbrev pub output_of : LineConnection → List ℕ
output_of connection = connection.output.items

-- how many bytes wait, in and out, as far as a word of 64 bits counts
abbrev pub bytes_held : LineConnection → ℕ
bytes_held connection =
    min (length (input_of connection) + length (output_of connection)) (2 ^ 64 - 1)

-- all that was read on it
abbrev pub received_of : LineConnection → List ℕ
received_of connection = flat_map (λ read. drop read.1 read.0.items) connection.reads.items

-- all that was written to it
abbrev pub sent_of : LineConnection → List ℕ
sent_of connection = flat_map (λ write. take write.1 write.0.items) connection.writes.items

-- nothing came yet on the side's connection, and nothing went
pub record IsNewOf (whose : Side) (connection : LineConnection) : Type 0 where
  pub side : side_of connection ≡ whose
  pub input : input_of connection ≡ []
  pub output : output_of connection ≡ []
  pub received : received_of connection ≡ []
  pub sent : sent_of connection ≡ []

-- nothing was read on it, and nothing written to it
abbrev pub IsQuiet : (before after : LineConnection) → Type 0
IsQuiet before after =
    (received_of after ≡ received_of before) × (sent_of after ≡ sent_of before)
    × (ended_of after ≡ ended_of before)

abbrev pub grammar_of : (side : Side) (moment : ℕ) → Grammar
grammar_of Station moment = grammar_is.Station moment
grammar_of (Bound names) moment = grammar_is.Station moment
grammar_of Operator moment = grammar_is.Operator moment

-- bytes that a line may have, without the line feed that ends it
abbrev pub longest_line : ℕ
longest_line = 65536

-- where the first line feed stands
abbrev pub line_end : List ℕ → Option ℕ
line_end input = position (λ b. b == 10) input

-- A control character of ASCII stands in it. No line has one, but each line of the head of a request
-- over HTTP ends with one, and TLS begins with one.
abbrev pub has_control : List ℕ → Bool
has_control line = list_any is_control line

-- the first line that came has one
abbrev pub BeginsNoText : (input : List ℕ) → Type 0
BeginsNoText input = (end : ℕ) × (line_end input ≡ Some end)
    × IsTrue (has_control (take end input))

-- who may ask what
abbrev pub MayAsk : (side : Side) (question : Question) → Type 0
MayAsk Station question = is_of_station question ≡ true
MayAsk (Bound names) question = is_of_station question ≡ true
MayAsk Operator question = is_of_station question ≡ false

abbrev pub begins_with : (input word : List ℕ) → Bool
begins_with input word = starts_with (λ a b. a == b) input word

-- it begins a line that may be answered with documents
abbrev pub asks_documents : List ℕ → Bool
asks_documents input = begins_with input (codes "start ") || begins_with input (codes "again ")

-- so many bytes that a reader had left came after those that were there
abbrev pub Comes : (left left2 : Option (List ℕ)) (before after : LineConnection) (n : ℕ) → Type 0
Comes left left2 before after n = (more : List ℕ) × (length more ≡ n) × Consumes left left2 more
    × (input_of after ≡ input_of before ++ more)
    × (received_of after ≡ received_of before ++ more)

-- so many of the bytes that waited went to a writer
abbrev pub Leaves : (given given2 : Option (List ℕ)) (before after : LineConnection) (n : ℕ)
    → Type 0
Leaves given given2 before after n =
    Appends given given2 (take n (output_of before)) × (output_of after ≡ drop n (output_of before))
    × (sent_of after ≡ sent_of before ++ take n (output_of before))

-- it is the line that the text says, and one of those of the grammar
abbrev pub IsEntryOf : (grammar : Grammar) (text : List ℕ) (entry : Entry) → Type 0
IsEntryOf grammar text entry = (line : Line) × (entry ≡ entry_is.Line line)
    × IsAllowed grammar line × IsLineOf grammar text line

-- a line that came by a bound door, and names none of its devices
pub record IsOfOther (side : Side) (came text : List ℕ) : Type 0 where
  pub line : List ℕ
  pub ended : came ≡ line ++ 10 ∷ []
  pub other : is_own side line ≡ false
  pub says : text ≡ not_your_device_text

-- a line is told that it is none of its side's, or names none of its door's devices
abbrev pub IsRefusal : (side : Side) (came text : List ℕ) → Type 0
IsRefusal side came text = (text ≡ bad_line_text) ⊎ IsOfOther side came text

module _ {S : Type 0} (store : Ghosts S) where
  -- what a line that came asks for is applied, once, at the moment, and stands in the journal; what
  -- it came to is told. By a bound door it comes for one of its devices.
  pub record Asks (side : Side) (came : List ℕ) (old : Served S) (text : List ℕ) (new : Served S)
      : Type 0 where
    pub line : List ℕ
    pub ended : came ≡ line ++ 10 ∷ []
    pub entry : Entry
    pub own : is_own side line ≡ true
    pub said : IsEntryOf (grammar_of side (moment_of old)) line entry
    pub told : Result Answered StoreFault
    pub next : AppliesNext store entry told old new
    pub says : text ≡ line_text told

  -- A question that a line asks outside a round is answered, and nothing is applied. `ping` is warned
  -- where lines wait for the log's file.
  pub record Inquires (side : Side) (came : List ℕ) (old : Served S) (text : List ℕ)
      (new : Served S) : Type 0 where
    pub line : List ℕ
    pub ended : came ≡ line ++ 10 ∷ []
    pub own : is_own side line ≡ true
    pub question : Question
    pub asks : MayAsk side question
    pub said : IsQuestionOf line question
    pub told : Result Reply StoreFault
    pub next : AnswersNext store question told old new
    pub says : text ≡ answer_text (has_to_warn question (log_lags_of old)) told

  -- a line of a backup
  pub record BacksUp (side : Side) (came : List ℕ) (old : Served S) (text : List ℕ) (new : Served S)
      : Type 0 where
    pub line : List ℕ
    pub ended : came ≡ line ++ 10 ∷ []
    pub asked : BackupLine
    pub operator : side ≡ Operator
    pub said : IsBackupOf line asked
    pub told : BackupTold
    pub next : AsksNext asked told old new
    pub says : text ≡ backup_text told

  -- a line that is refused, which changes nothing
  abbrev pub IsRefused : (side : Side) (came : List ℕ) (old : Served S) (text : List ℕ)
      (new : Served S) → Type 0
  IsRefused side came old text new = IsRefusal side came text × (new ≡ old)

  -- a line asks for something, or asks a question, or is one of a backup, or is refused
  abbrev pub IsTold : (side : Side) (came : List ℕ) (old : Served S) (text : List ℕ) (new : Served S)
      → Type 0
  IsTold side came old text new = Asks side came old text new
      ⊎ (Inquires side came old text new
      ⊎ (BacksUp side came old text new ⊎ IsRefused side came old text new))

  -- the first line that came is taken, and this is told of it
  pub record TakesLine (before after : LineConnection) (old : Served S) (text : List ℕ)
      (new : Served S) : Type 0 where
    pub end : ℕ
    pub first : line_end (input_of before) ≡ Some end
    pub plain : has_control (take end (input_of before)) ≡ false
    pub rest : input_of after ≡ drop (end + 1) (input_of before)
    pub gives : IsTold (side_of before) (take (end + 1) (input_of before)) old text new

  -- the first line that came is taken, and its answer waits after the others
  abbrev pub AnswersLine : (before after : LineConnection) (old new : Served S) → Type 0
  AnswersLine before after old new = (text : List ℕ) × TakesLine before after old text new
      × (output_of after ≡ output_of before ++ text)

  -- there was no memory for the line, which is left as it came, or for its answer, which is lost
  abbrev pub LosesAnswer : (before after : LineConnection) (old new : Served S) → Type 0
  LosesAnswer before after old new = ((input_of after ≡ input_of before) × (new ≡ old))
      ⊎ ((text : List ℕ) × TakesLine before after old text new)

-- no line is whole yet, and nothing has changed
pub record IsWaiting {S : Type 0} (before after : LineConnection) (old new : Served S)
    : Type 0 where
  pub none : line_end (input_of before) ≡ None
  pub connection : after ≡ before
  pub served : new ≡ old

-- the first line that came is no text; nothing has changed
pub record IsNoText {S : Type 0} (before after : LineConnection) (old new : Served S) : Type 0 where
  pub begins : BeginsNoText (input_of before)
  pub connection : after ≡ before
  pub served : new ≡ old

-- A question stands in front, which is asked once the round is over; nothing has changed.
pub record IsPutOff {S : Type 0} (before after : LineConnection) (old new : Served S) : Type 0 where
  pub shared : IsTrue (shares_of old)
  pub connection : after ≡ before
  pub served : new ≡ old
