-- Rule: What is sent for a line (all this project's own).
use Rattle.std.specs.Prelude.{ℕ, Bool, false, if◌then◌else◌, List, ◌++◌, codes, decimal, length, Option, Some, None, Result, Ok, Err}
use Rattle.std.specs.List.{flat_map}
use Rattle.account_replies.specs.Words.{word_text}
use Rattle.account_replies.specs.declared.part.Part.{Part}
use Rattle.account_machine.specs.declared.event.Reply.{Reply}
use Rattle.account_machine.specs.declared.event.Reply.TheVariants as reply_is
use Rattle.account_machine.specs.declared.verdict.Answered.{Answered}
use Rattle.account_machine.specs.declared.verdict.Verdict.{Verdict}
use Rattle.account_machine.specs.declared.verdict.Verdict.TheVariants.{Done, Refused}
use Rattle.serve_log.specs.declared.refusal.LineRefusal.{LineRefusal}
use Rattle.serve_log.specs.declared.refusal.LineRefusal.TheVariants.{BadLine, NotYourDevice}
use Rattle.account_questions.specs.declared.question.Question.{Question}
use Rattle.account_questions.specs.declared.question.Question.TheVariants.{Ping}
use Rattle.store_rounds.specs.declared.fault.StoreFault.{StoreFault}

-- for a line that is none of its side's
abbrev pub bad_line_text : List ℕ
bad_line_text = codes "bad-line\n"

-- for a line of a device for which its door takes none
abbrev pub not_your_device_text : List ℕ
not_your_device_text = codes "not-your-device\n"

abbrev pub refused_line : LineRefusal → List ℕ
refused_line BadLine = bad_line_text
refused_line NotYourDevice = not_your_device_text

-- a document: its line, its bytes as they are, and a line feed
abbrev pub part_text : Part → List ℕ
part_text part = part.line ++ codes "\n" ++ part.bytes ++ codes "\n"

-- how many documents come, and then each
abbrev pub parts_text : List Part → List ℕ
parts_text parts =
    codes "documents " ++ decimal (length parts) ++ codes "\n" ++ flat_map part_text parts

-- ---- what is sent

-- An operator who asks in the place of an account's owner is told `ok`, or the word that tells why
-- not. A question has no verdict: no response answers it.
abbrev pub verdict_text : Option Verdict → List ℕ
verdict_text (Some (Done status job)) = codes "ok"
verdict_text (Some (Refused refusal job)) = word_text refusal.word
verdict_text None = codes "failed"

-- a response is not told, but what it came to
abbrev pub reply_text : Option Verdict → Reply → List ℕ
reply_text verdict (reply_is.Line text) = text ++ codes "\n"
reply_text verdict (reply_is.Documents parts) = parts_text parts
reply_text verdict reply_is.NoAccount = codes "no-account\n"
reply_text verdict reply_is.Short = codes "short\n"
reply_text verdict (reply_is.Ipp answer) = verdict_text verdict ++ codes "\n"

abbrev pub line_text : Result Answered StoreFault → List ℕ
line_text (Ok it) = reply_text (Some it.verdict) it.reply
line_text (Err fault) = codes "failed\n"

-- the answer to `ping` warns where lines wait for the log's file
abbrev pub has_to_warn : Question → (log_lags : Bool) → Bool
has_to_warn Ping log_lags = log_lags
has_to_warn _ log_lags = false

-- for a question
abbrev pub question_text : Result Reply StoreFault → List ℕ
question_text (Ok reply) = reply_text None reply
question_text (Err fault) = codes "failed\n"

abbrev pub answer_text : (warns : Bool) → Result Reply StoreFault → List ℕ
answer_text warns told = if warns then codes "log-fails\n" else question_text told
