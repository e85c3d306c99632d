-- A line and its line feed, as they came.
use Rattle.std.proofs.Common.{◌≡◌, ◌==◌, ℕ, Bool, true, false, IsTrue, ◌+◌, List, [], ◌∷◌, ◌++◌, take, drop, get_or, Some, Result, Ok, Err, OnErr, ap, refl, sym, inl, inr, ◌∙◌}
use Rattle.std.proofs.lemmas.Bool.{eqb-true, true≢false}
use Rattle.std.proofs.lemmas.List.{take_more}
use Rattle.std.proofs.lemmas.List.Quantifiers.{position-Some}
use Rattle.sqlite_trees.specs.declared.store.Store.{Ghosts}
use Rattle.account_machine.specs.declared.event.Reply.{Reply}
use Rattle.account_machine.specs.declared.verdict.Answered.{Answered}
use Rattle.store_rounds.specs.declared.fault.StoreFault.{StoreFault}
use Rattle.account_questions.specs.declared.question.Question.{Question}
use Rattle.account_questions.specs.declared.question.Question.TheVariants.{Ping, End, Devices, DevicesPage, Accounts, Check, Account}
use Rattle.serve_peers.specs.Journals.{log_lags_of, moment_of}
use Rattle.serve_peers.specs.Turns.{AnswersNext, AppliesNext}
use Rattle.serve_peers.specs.Lines.{IsEntryOf, IsRefusal, MayAsk, TakesLine, grammar_of, has_control, input_of, line_end, side_of}
use Rattle.serve_log.specs.declared.refusal.LineRefusal.{LineRefusal}
use Rattle.serve_log.specs.declared.refusal.LineRefusal.TheVariants.{BadLine, NotYourDevice}
use Rattle.serve_peers.specs.LineTexts.{answer_text, bad_line_text, has_to_warn, line_text, refused_line}
use Rattle.serve_peers.specs.OwnDevices.{is_own}
use Rattle.input_lines.specs.Asking.{IsQuestionOf}
use Rattle.input_lines.specs.Backups.{IsBackupOf}
use Rattle.input_lines.specs.declared.backup.BackupLine.{BackupLine}
use Rattle.serve_peers.specs.Backups.{backup_text}
use Rattle.serve_peers.specs.Keeping.{AsksNext}
use Rattle.serve_peers.specs.declared.backup.BackupTold.{BackupTold}
use Rattle.serve_peers.specs.declared.line_connection.Side.{Side}
use Rattle.serve_peers.specs.declared.line_connection.Side.TheVariants.{Operator}
use Rattle.serve_peers.specs.declared.entry.Entry.{Entry}
use Rattle.serve_peers.specs.declared.line_connection.LineConnection.{LineConnection}
use Rattle.serve_peers.specs.declared.served.Served.{Served}

-- what ends after its line feed is the line and the line feed
pub ends_with_feed : (input : List ℕ) (end : ℕ) → line_end input ≡ Some end → take (end + 1) input ≡ take end input ++ 10 ∷ []
ends_with_feed input end is =
    let found = position-Some (λ b. b == 10) input end 0 is in
    take_more input end 0 found.0 ∙ ap (λ b. take end input ++ b ∷ []) (eqb-true (get_or input end 0) 10 found.1)

module _ {S : Type 0} (store : Ghosts S) where
  -- a line of its side's was applied
  pub takes_entry : (before after : LineConnection) (old new : Served S) (end : ℕ) (entry : Entry) (told : Result Answered StoreFault) → line_end (input_of before) ≡ Some end → has_control (take end (input_of before)) ≡ false → input_of after ≡ drop (end + 1) (input_of before)
      → is_own (side_of before) (take end (input_of before)) ≡ true → IsEntryOf (grammar_of (side_of before) (moment_of old)) (take end (input_of before)) entry → AppliesNext store entry told old new
      → TakesLine store before after old (line_text told) new
  takes_entry before after old new end entry told first plain rest own said next = record {
    end = end;
    first = first;
    plain = plain;
    rest = rest;
    gives = inl (record {
      line = take end (input_of before);
      ended = ends_with_feed (input_of before) end first;
      own = own;
      entry = entry;
      said = said;
      told = told;
      next = next;
      says = refl;
    });
  }

  -- a question was answered
  pub takes_question : (before after : LineConnection) (old new : Served S) (end : ℕ) (question : Question) (warns : Bool) (told : Result Reply StoreFault) → line_end (input_of before) ≡ Some end → has_control (take end (input_of before)) ≡ false → input_of after ≡ drop (end + 1) (input_of before)
      → is_own (side_of before) (take end (input_of before)) ≡ true → MayAsk (side_of before) question → IsQuestionOf (take end (input_of before)) question → AnswersNext store question told old new → warns ≡ has_to_warn question (log_lags_of old)
      → TakesLine store before after old (answer_text warns told) new
  takes_question before after old new end question warns told first plain rest own asks said next is = record {
    end = end;
    first = first;
    plain = plain;
    rest = rest;
    gives = inr (inl (record {
      line = take end (input_of before);
      ended = ends_with_feed (input_of before) end first;
      own = own;
      question = question;
      asks = asks;
      said = said;
      told = told;
      next = next;
      says = ap (λ warns. answer_text warns told) is;
    }));
  }

  -- a line of a backup was taken
  pub takes_backup : (before after : LineConnection) (old new : Served S) (end : ℕ) (asked : BackupLine) (told : BackupTold) → line_end (input_of before) ≡ Some end → has_control (take end (input_of before)) ≡ false → input_of after ≡ drop (end + 1) (input_of before) → side_of before ≡ Operator
      → IsBackupOf (take end (input_of before)) asked → AsksNext asked told old new → TakesLine store before after old (backup_text told) new
  takes_backup before after old new end asked told first plain rest operator said next = record {
    end = end;
    first = first;
    plain = plain;
    rest = rest;
    gives = inr (inr (inl (record {
      line = take end (input_of before);
      ended = ends_with_feed (input_of before) end first;
      asked = asked;
      operator = operator;
      said = said;
      told = told;
      next = next;
      says = refl;
    })));
  }

  -- a line that is none of its side's
  pub takes_bad : (before after : LineConnection) (old new : Served S) (end : ℕ) → line_end (input_of before) ≡ Some end → has_control (take end (input_of before)) ≡ false → input_of after ≡ drop (end + 1) (input_of before) → new ≡ old → TakesLine store before after old bad_line_text new
  takes_bad before after old new end first plain rest same = record {
    end = end;
    first = first;
    plain = plain;
    rest = rest;
    gives = inr (inr (inr (inl refl, same)));
  }

  refuses : (side : Side) (line came : List ℕ) (why : LineRefusal) → came ≡ line ++ 10 ∷ [] → is_own side line ≡ false → IsRefusal side came (refused_line why)
  refuses side line came BadLine ended other = inl refl
  refuses side line came NotYourDevice ended other = inr (record { line = line; ended = ended; other = other; says = refl })

  -- a line that names no device of its door
  pub takes_refused : (before after : LineConnection) (old new : Served S) (end : ℕ) (why : LineRefusal) → line_end (input_of before) ≡ Some end → has_control (take end (input_of before)) ≡ false → input_of after ≡ drop (end + 1) (input_of before)
      → is_own (side_of before) (take end (input_of before)) ≡ false → new ≡ old → TakesLine store before after old (refused_line why) new
  takes_refused before after old new end why first plain rest other same = record {
    end = end;
    first = first;
    plain = plain;
    rest = rest;
    gives = inr (inr (inr (refuses (side_of before) (take end (input_of before)) (take (end + 1) (input_of before)) why (ends_with_feed (input_of before) end first) other, same)));
  }

-- what holds anyway holds after an error
pub on_err : {T E : Type 0} → (result : Result T E) (P : Type 0) → P → OnErr result P
on_err (Ok value) P holds = tt
on_err (Err error) P holds = holds

-- of no other answer there is a warning
pub only_ping : (question : Question) (log_lags : Bool) → IsTrue (has_to_warn question log_lags) → question ≡ Ping
only_ping Ping log_lags warns = refl
only_ping End log_lags warns = absurd (true≢false (sym warns))
only_ping Devices log_lags warns = absurd (true≢false (sym warns))
only_ping DevicesPage log_lags warns = absurd (true≢false (sym warns))
only_ping (Accounts behind) log_lags warns = absurd (true≢false (sym warns))
only_ping (Check account) log_lags warns = absurd (true≢false (sym warns))
only_ping (Account account about) log_lags warns = absurd (true≢false (sym warns))
