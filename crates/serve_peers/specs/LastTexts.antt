-- Rule: What is sent last on a connection whose round was lost, since its commit failed: what was
-- asked in it was applied again, by itself (all this project's own).
use Rattle.std.specs.Prelude.{ℕ, List, true, if◌then◌else◌, length, nat_lt, Result, Ok, Err}
use Rattle.ipp_coding.specs.Limits.{header_length}
use Rattle.ipp_coding.specs.Reading.{header_in}
use Rattle.ipp_coding.specs.declared.message.Header.{Header}
use Rattle.account_machine.specs.Verdicts.{reply_of}
use Rattle.account_machine.specs.declared.event.Reply.{Reply}
use Rattle.account_machine.specs.declared.event.Reply.TheVariants as reply_is
use Rattle.account_machine.specs.declared.verdict.Answered.{Answered}
use Rattle.input_http.specs.Texts.{answer_text, refusal_text}
use Rattle.input_http.specs.declared.refusal.Refusal.TheVariants.{BadRequest, NotFound}
use Rattle.account_replies.specs.Replies.{internal_error_text}
use Rattle.store_rounds.specs.declared.fault.StoreFault.{StoreFault}
use Rattle.serve_peers.specs.LineTexts.{line_text}
use Rattle.serve_peers.specs.declared.entry.Entry.{Entry}
use Rattle.serve_peers.specs.declared.entry.Entry.TheVariants as entry_is

-- the answer, 404 where the account is not open, and internal-error for all else, as a fault of
-- the store; each ends the connection
abbrev pub response_text : (header : Header) (told : Result Reply StoreFault) → List ℕ
response_text header (Ok (reply_is.Ipp answer)) = answer_text answer true
response_text header (Ok reply_is.NoAccount) = refusal_text NotFound
response_text header (Ok other) = answer_text (internal_error_text header) true
response_text header (Err fault) = answer_text (internal_error_text header) true

-- 400 for a message that ends within its header
abbrev pub answer_to : (body : List ℕ) (told : Result Reply StoreFault) → List ℕ
answer_to body told = if nat_lt (length body) header_length then refusal_text BadRequest
    else response_text (header_in body) told

-- over HTTP, or as the answer to a line
abbrev pub last_text : (asked : Entry) (told : Result Answered StoreFault) → List ℕ
last_text (entry_is.Message moment account body) told = answer_to body (reply_of told)
last_text (entry_is.Line line) told = line_text told
last_text (entry_is.Desk operator line) told = line_text told
