-- What an event asked for, and whether it was done, as its answer tells (all this project's own).
use Rattle.std.specs.Prelude.{ℕ, Bool, true, false, nat_eq, nat_lt, List, Option, Some, None, Result, Ok, Err, codes}
use Rattle.std.specs.List.{starts_with}
use Rattle.ipp_coding.specs.Reading.{header_in}
use Rattle.account_asks.specs.Asks.{PlainAsk, PlainRefusal, ask_of}
use Rattle.account_machine.specs.Events.{AccountEvent, Ipp}
use Rattle.account_machine.specs.declared.event.Reply.{Reply}
use Rattle.account_machine.specs.declared.event.Reply.TheVariants as reply

-- a request was done: its status is one of successful-ok (RFC 8011 section B.1.2)
abbrev pub is_successful : Reply → Bool
is_successful (reply.Ipp text) = nat_lt (header_in text).code 0x0100
is_successful _ = false

-- a station's or an operator's line was done: its answer begins with ok
abbrev pub is_ok : Reply → Bool
is_ok (reply.Line text) = starts_with nat_eq text (codes "ok")
is_ok _ = false

-- documents were handed out
abbrev pub is_documents : Reply → Bool
is_documents (reply.Documents parts) = true
is_documents _ = false

-- what a request asks, where it passes the checks of requests
abbrev pub if_passed : Result PlainAsk PlainRefusal → Option PlainAsk
if_passed (Ok ask) = Some ask
if_passed (Err refused) = None

abbrev pub request_of : (account : List ℕ) → AccountEvent → Option PlainAsk
request_of account (Ipp body) = if_passed (ask_of account body)
request_of account _ = None
