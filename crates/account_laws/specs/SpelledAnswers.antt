-- What the bytes of an answer spell, by what was told before (RFC 8011 sections 4.2 and 4.3).
use Rattle.std.specs.Prelude.{◌≡◌, ◌≢◌, ℕ, ◌<◌, ◌≤◌, List, ◌∷◌, ◌++◌, length, Option, Some, None, Result, Ok, Err}
use Rattle.ipp_coding.specs.Plain.{PlainMessage}
use Rattle.ipp_coding.specs.Reading.{header_in}
use Rattle.ipp_coding.specs.Spelling.{Spells}
use Rattle.account_asks.specs.Asks.{PlainAsk, PlainRefusal, ask_of}
use Rattle.account_laws.specs.AccountsTold.{AccountTold, account_told}
use Rattle.account_laws.specs.AnswerMessages.{done_message, failed_message, refused_message}
use Rattle.account_laws.specs.AsksLieWithin.{AreBytes}
use Rattle.account_laws.specs.DoneAnswers.{groups_told}
use Rattle.account_laws.specs.Refusals.{first_refusal}
use Rattle.account_laws.specs.RequestAnswers.{operation_checks}
use Rattle.account_lives.specs.Lives.{Life, OfLives}
use Rattle.account_machine.specs.Events.{OfAccount, Ipp}
use Rattle.account_machine.specs.declared.event.Reply.{Reply}
use Rattle.account_machine.specs.declared.event.Reply.TheVariants as reply
use Rattle.account_replies.specs.Replies.{internal_error_text}
use Rattle.account_rules.specs.declared.refusal.Refusal.{Refusal}

-- ---- the message

-- of a request that passes the checks of requests: it is refused for the first of the checks of its
-- operation, or done
abbrev pub message_by :
    (told : AccountTold) (now : ℕ) (account body : List ℕ) (ask : PlainAsk) → Option Refusal
    → PlainMessage
message_by told now account body ask None =
    done_message body ask.unsupported
    (groups_told told account now ask ask.operation)
message_by told now account body ask (Some refusal) =
    refused_message body refusal.word ask.unsupported

-- one that does not is refused as it is read
abbrev pub message_told :
    (told : AccountTold) (now : ℕ) (account body : List ℕ) → Result PlainAsk PlainRefusal
    → PlainMessage
message_told told now account body (Err refused) =
    refused_message body refused.refusal.word refused.unsupported
message_told told now account body (Ok ask) =
    message_by told now account body ask
    (first_refusal (operation_checks told now ask ask.operation))

-- ---- the law

-- A request that has its header, of 8 bytes, and is for an account that was opened is answered with
-- bytes that spell the message, and no other.
pub record Spelled (told : AccountTold) (body : List ℕ) (message : PlainMessage) (text : List ℕ)
    : Type 0 where
  pub has_header : 8 ≤ length body
  pub was_opened : told.opened ≢ None
  pub spells : Spells message text
  pub is_one : (other : PlainMessage) → Spells other text → other ≡ message

-- Bytes without a header are no request, and an account that was not opened has no queue.
abbrev pub AnswersRequest :
    (told : AccountTold) (body : List ℕ) (message : PlainMessage) → Reply → Type 0
AnswersRequest told body message (reply.Ipp text) = Spelled told body message text
AnswersRequest told body message reply.Short = length body < 8
AnswersRequest told body message reply.NoAccount = (8 ≤ length body) × (told.opened ≡ None)
AnswersRequest told body message (reply.Line text) = ⊥
AnswersRequest told body message (reply.Documents parts) = ⊥

-- So each request of bytes is answered, wherever it stands in a life. The name of its account has
-- at most 32 bytes.
abbrev pub AnswersAreSpelled : Type 0
AnswersAreSpelled = OfLives (λ life.
    (past later : Life) (now : ℕ) (account body : List ℕ) (said : Reply)
    → life ≡ past ++ ((now, OfAccount account (Ipp body)), said) ∷ later
    → AreBytes body → length account ≤ 32
    → let told = account_told past in
    AnswersRequest told body (message_told told now account body (ask_of account body)) said)

-- ---- a request that could not be applied

-- bytes spell the message, and no other
pub record SpellsOne (message : PlainMessage) (text : List ℕ) : Type 0 where
  pub spells : Spells message text
  pub is_one : (other : PlainMessage) → Spells other text → other ≡ message

-- What is told where a request could not be applied spells that, with the request's id.
abbrev pub FailuresAreSpelled : Type 0
FailuresAreSpelled =
    (body : List ℕ) → AreBytes body → 8 ≤ length body
    → SpellsOne (failed_message body) (internal_error_text (header_in body))
