-- Lines of a door of lines, and what goes out in answer to them (this project's own).
use Rattle.std.specs.Prelude.{◌≡◌, ◌≤◌, ◌⊎◌, ℕ, Bool, true, false, suc, length, slice_get, take, IsTrue, List, [], ◌∷◌, ◌++◌, Some, Result}
use Rattle.sqlite.specs.Held.{Held}
use Rattle.sqlite_trees.specs.declared.store.Store.{Ghosts}
use Rattle.account_machine.specs.declared.event.Reply.{Reply}
use Rattle.input_lines.specs.Asking.{IsQuestionOf}
use Rattle.input_lines.specs.Backups.{IsBackupOf}
use Rattle.input_lines.specs.declared.backup.BackupLine.{BackupLine}
use Rattle.account_questions.specs.declared.question.Question.{Question}
use Rattle.account_questions.specs.declared.question.Question.TheVariants.{Ping}
use Rattle.store_rounds.specs.declared.fault.StoreFault.{StoreFault}
use Rattle.serve_peers.specs.Backups.{backup_text}
use Rattle.serve_peers.specs.declared.backup.BackupTold.{BackupTold}
use Rattle.serve_peers.specs.Journals.{Told}
use Rattle.serve_peers.specs.LinePeers.{AreLines, IsOver, LineCall, bytes_told, taken}
use Rattle.serve_peers.specs.Lines.{IsEntryOf, IsRefusal, MayAsk, grammar_of, input_of, output_of, received_of, sent_of, side_of}
use Rattle.serve_peers.specs.LineTexts.{answer_text, line_text}
use Rattle.serve_peers.specs.OwnDevices.{is_own}
use Rattle.serve_peers.specs.declared.line_connection.LineConnection.{LineConnection}
use Rattle.serve_peers.specs.declared.line_connection.Side.{Side}
use Rattle.serve_peers.specs.declared.line_connection.Side.TheVariants.{Operator}
use Rattle.serve_sockets.specs.Questions.{AnswersBy}

-- The line is what was asked there, and what is told of it is what that came to. By a bound door it
-- names one of its devices.
pub record TellsLine (side : Side) (call : LineCall) (told : Told) : Type 0 where
  pub line : List ℕ
  pub ended : call.0 ≡ line ++ 10 ∷ []
  pub own : is_own side line ≡ true
  pub moment : ℕ
  pub said : IsEntryOf (grammar_of side moment) line told.0
  pub says : call.1 ≡ line_text told.1

-- the line is one of a backup, and is told one of its words
pub record TellsBackup (side : Side) (call : LineCall) : Type 0 where
  pub line : List ℕ
  pub ended : call.0 ≡ line ++ 10 ∷ []
  pub operator : side ≡ Operator
  pub asked : BackupLine
  pub said : IsBackupOf line asked
  pub told : BackupTold
  pub says : call.1 ≡ backup_text told

module _ {S : Type 0} (store : Ghosts S) (first last : Held S) where
  -- The line is a question of its side, and what is told of it answers that; `ping` may be told a
  -- warning. By a bound door it names one of its devices.
  pub record TellsAnswer (side : Side) (call : LineCall) (so_far : List Told) : Type 0 where
    pub line : List ℕ
    pub ended : call.0 ≡ line ++ 10 ∷ []
    pub own : is_own side line ≡ true
    pub question : Question
    pub asks : MayAsk side question
    pub said : IsQuestionOf line question
    pub told : Result Reply StoreFault
    pub warns : Bool
    pub pings : IsTrue warns → question ≡ Ping
    pub says : call.1 ≡ answer_text warns told
    pub answers : AnswersBy store first last so_far question told

  -- Each line is told what stands in the journal at the next of these places, which rise from the
  -- least on. Others have no place: a question, which is answered by what stands there up to then, with
  -- all that was told on the connection before; a line of a backup, which is told how that goes on; and
  -- a line that is refused: a bad one, or by a bound door one of another device.
  abbrev pub AnswersLineCalls : (side : Side) → List LineCall
      → (least : ℕ) (places : List ℕ) (journal : List Told) → Type 0
  AnswersLineCalls side [] least places journal = places ≡ []
  AnswersLineCalls side (call ∷ calls) least places journal =
      ((told : Told) × TellsLine side call told × (place : ℕ) × (rest : List ℕ)
      × (places ≡ place ∷ rest) × (least ≤ place) × (slice_get journal place ≡ Some told)
      × AnswersLineCalls side calls (suc place) rest journal)
      ⊎ (((n : ℕ) × (least ≤ n) × (n ≤ length journal) × TellsAnswer side call (take n journal)
      × AnswersLineCalls side calls n places journal)
      ⊎ ((TellsBackup side call ⊎ IsRefusal side call.0 call.1)
      × AnswersLineCalls side calls least places journal))

  -- The same of the lines of one turn that began with the journal as long as this. A question is
  -- answered where no round is under way, by what stood there then, with what the turn told before.
  abbrev pub AnswersLinesNow : (shares : Bool) (side : Side) → List LineCall
      → (long : ℕ) (places : List ℕ) (journal : List Told) → Type 0
  AnswersLinesNow shares side [] long places journal = places ≡ []
  AnswersLinesNow shares side (call ∷ calls) long places journal =
      ((told : Told) × TellsLine side call told × (rest : List ℕ)
      × (places ≡ long ∷ rest) × (slice_get journal long ≡ Some told)
      × AnswersLinesNow shares side calls (suc long) rest journal)
      ⊎ (((shares ≡ false) × (long ≤ length journal) × TellsAnswer side call (take long journal)
      × AnswersLinesNow shares side calls long places journal)
      ⊎ ((TellsBackup side call ⊎ IsRefusal side call.0 call.1)
      × AnswersLinesNow shares side calls long places journal))

  -- what a turn takes and tells on a connection of lines; where the peer stays the rest waits to go
  pub record TellsLinesNow (shares : Bool) (stays : Type 0) (before after : LineConnection)
      (long : ℕ) (journal : List Told) : Type 0 where
    pub calls : List LineCall
    pub came : List ℕ
    pub went : List ℕ
    pub waits : List ℕ
    pub input : input_of before ++ came ≡ taken calls ++ input_of after
    pub output : output_of before ++ bytes_told calls ≡ went ++ waits
    pub received : received_of after ≡ received_of before ++ came
    pub sent : sent_of after ≡ sent_of before ++ went
    pub all_waits : stays → waits ≡ output_of after
    pub places : List ℕ
    pub answered : AnswersLinesNow shares (side_of before) calls long places journal

  -- All that came are these lines, and what is no whole line yet; all that went, and what waits, is
  -- what is told of them, in order. Each has one answer, and is one line; where nothing more comes, the
  -- last may be a rest, which is told to be none.
  pub record HasAnsweredLines (connection : LineConnection) (waits : List ℕ) (places : List ℕ)
      (journal : List Told) : Type 0 where
    pub calls : List LineCall
    pub lines : AreLines (IsOver connection) calls
    pub came : received_of connection ≡ taken calls ++ input_of connection
    pub goes : bytes_told calls ≡ sent_of connection ++ waits
    pub answered : AnswersLineCalls (side_of connection) calls 0 places journal
