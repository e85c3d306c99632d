-- What `serve_one` does about one message of HTTP: which message it was, what was written, and what
-- it did to the tables (all this project's own).
use Rattle.std.specs.Prelude.{◌≡◌, ◌<◌, ℕ, Bool, true, List, ◌++◌, length, take, if◌then◌else◌, Option, Result, Ok, Err}
use Rattle.std.specs.Io.KnownBytes.{Appends}
use Rattle.sqlite.specs.Held.{Held, state}
use Rattle.sqlite_trees.specs.declared.store.Store.{Ghosts}
use Rattle.ipp_coding.specs.Reading.{header_in}
use Rattle.account_machine.specs.Events.{OfAccount, Ipp}
use Rattle.account_machine.specs.declared.event.Reply.{Reply}
use Rattle.account_machine.specs.declared.event.Reply.TheVariants as reply_is
use Rattle.listen_http.specs.Exchange.{AppendsFront, AppendsInterim, Takes, TakesHead}
use Rattle.listen_http.specs.Http.{Http, Nothing, Refused, Carried}
use Rattle.input_http.specs.Texts.{answer_text, interim_text, refusal_text}
use Rattle.listen_http.specs.declared.fault.WireFault.{WireFault}
use Rattle.listen_http.specs.declared.fault.WireFault.TheVariants.{Read, Write, Memory, Ended}
use Rattle.listen_http.specs.declared.judging.Order.{Order}
use Rattle.input_http.specs.declared.refusal.Refusal.{Refusal}
use Rattle.input_http.specs.declared.refusal.Refusal.TheVariants.{NotFound}
use Rattle.store_events.specs.Applied.{Applies}
use Rattle.store_rounds.specs.declared.fault.StoreFault.{StoreFault}
use Rattle.account_replies.specs.Replies.{internal_error_text}
use Rattle.room_serve.specs.declared.wire.After.{After}
use Rattle.room_serve.specs.declared.wire.After.TheVariants.{Again, Close}

-- ---- what is told

abbrev pub internal_error_answer : (body : List ℕ) (closes : Bool) → List ℕ
internal_error_answer body closes = answer_text (internal_error_text (header_in body)) closes

-- the answer, 404 where the account is not open, and internal-error for any fault of the store
abbrev pub text_told : (body : List ℕ) (closes : Bool) (told : Result Reply StoreFault) → List ℕ
text_told body closes (Ok (reply_is.Ipp answer)) = answer_text answer closes
text_told body closes (Ok reply_is.NoAccount) = refusal_text NotFound
text_told body closes (Ok other) = internal_error_answer body closes
text_told body closes (Err fault) = internal_error_answer body closes

abbrev pub after_answer : Bool → After
after_answer closes = if closes then Close else Again

abbrev pub after_telling : (closes : Bool) (told : Result Reply StoreFault) → After
after_telling closes (Ok reply_is.NoAccount) = Close
after_telling closes (Ok other) = after_answer closes
after_telling closes (Err fault) = after_answer closes

-- ---- what happens to the tables

-- the message was applied, once
abbrev pub AppliesMessage :
    {S : Type 0} (store : Ghosts S) (now : ℕ) (account body : List ℕ) (old new : Held S)
    (told : Result Reply StoreFault) →
    Type 0
AppliesMessage store now account body old new told =
    Applies now (OfAccount account (Ipp body)) (state store old) (state store new) told

-- ---- both, with what was taken of the input

-- a text, and a front of another after it that is not all of that
abbrev pub AppendsBehind : (given given2 : Option (List ℕ)) (first text : List ℕ) → Type 0
AppendsBehind given given2 first text =
    (n : ℕ) × (n < length text) × Appends given given2 (first ++ take n text)

module _ {S : Type 0} (store : Ghosts S) (now : ℕ) (before after : List ℕ → Type 0)
    (given given2 : Option (List ℕ)) (old new : Held S) where
  -- the message was answered
  pub data Answers : After → Type 0 where
    has_nothing : Takes before after (λ b rest. Http b Nothing) → given2 ≡ given
        → new ≡ old → Answers Close
    has_refused : (interim : Bool) (why : Refusal)
        → Takes before after (λ b rest. Http b (Refused interim why))
        → Appends given given2 (interim_text interim ++ refusal_text why)
        → new ≡ old → Answers Close
    has_carried : (order : Order) (body : List ℕ) (told : Result Reply StoreFault)
        → Takes before after (λ b rest. Http b (Carried order body rest))
        → AppliesMessage store now order.account body old new told
        → Appends given given2 (interim_text order.expects ++ text_told body order.closes told)
        → Answers (after_telling order.closes told)

  -- a front of the answer was written that is not all of it
  pub data IsBroken : Type 0 where
    in_interim : (order : Order) → TakesHead before after order → order.expects ≡ true
        → AppendsFront given given2 (interim_text true) → new ≡ old → IsBroken
    in_refusal : (interim : Bool) (why : Refusal)
        → Takes before after (λ b rest. Http b (Refused interim why))
        → AppendsBehind given given2 (interim_text interim) (refusal_text why)
        → new ≡ old → IsBroken
    in_answer : (order : Order) (body : List ℕ) (told : Result Reply StoreFault)
        → Takes before after (λ b rest. Http b (Carried order body rest))
        → AppliesMessage store now order.account body old new told
        → AppendsBehind given given2 (interim_text order.expects)
        (text_told body order.closes told)
        → IsBroken

  -- nothing of the message was applied, and nothing was written but the 100 text where its head
  -- asks for it
  abbrev pub AppliesNothing : Type 0
  AppliesNothing = AppendsInterim before after given given2 × (new ≡ old)

  abbrev pub Breaks : WireFault → Type 0
  Breaks Read = AppliesNothing
  Breaks Memory = AppliesNothing
  Breaks Write = IsBroken
  Breaks Ended = ⊥
