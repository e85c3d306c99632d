-- An answer after what was written before it.
use Rattle.std.proofs.Common.{◌≡◌, ℕ, List, take, Option, Result, Ok, Err, IfOk, IfErr, OnErr, refl, sym, subst}
use Rattle.std.specs.Io.KnownBytes.{Appends}
use Rattle.sqlite.specs.Held.{Held}
use Rattle.sqlite_trees.specs.declared.store.Store.{Ghosts}
use Rattle.account_machine.specs.declared.event.Reply.{Reply}
use Rattle.listen_http.specs.Exchange.{AppendsFront, FailedReceiving, Takes}
use Rattle.listen_http.specs.Http.{Http, Carried}
use Rattle.input_http.specs.Texts.{interim_text}
use Rattle.listen_http.specs.declared.fault.WireFault.{WireFault}
use Rattle.listen_http.specs.declared.fault.WireFault.TheVariants.{Read, Write, Memory, Ended}
use Rattle.listen_http.specs.declared.judging.Order.{Order}
use Rattle.listen_http.proofs.Streams.{Appends_more}
use Rattle.store_rounds.specs.declared.fault.StoreFault.{StoreFault}
use Rattle.room_serve.specs.Exchanges.{Answers, AppliesMessage, AppendsBehind, Breaks, after_telling, has_carried, in_answer, in_interim, text_told}
use Rattle.room_serve.specs.declared.wire.After.{After}

-- a front of a text, after another text
pub behind : (a b c : Option (List ℕ)) (first text : List ℕ) → Appends a b first → AppendsFront b c text → AppendsBehind a c first text
behind a b c first text all part = (part.0, part.1, Appends_more a b c first (take part.0 text) all part.2)

module _ {S : Type 0} (store : Ghosts S) (now : ℕ) (before after : List ℕ → Type 0) (a b c : Option (List ℕ)) (old new : Held S) (order : Order) (body : List ℕ) where
  abbrev pub Message : Type 0
  Message = Takes before after (λ text rest. Http text (Carried order body rest))

  abbrev pub Told : After → Type 0
  Told next = (told : Result Reply StoreFault) × AppliesMessage store now order.account body old new told × Appends b c (text_told body order.closes told) × (next ≡ after_telling order.closes told)

  abbrev pub ToldInPart : Type 0
  ToldInPart = (told : Result Reply StoreFault) × AppliesMessage store now order.account body old new told × AppendsFront b c (text_told body order.closes told)

  pub answered : (result : Result After WireFault) → Message → Appends a b (interim_text order.expects) → IfOk result Told → IfOk result (Answers store now before after a c old new)
  answered (Ok next) message interim told =
      subst (Answers store now before after a c old new) (sym told.3) (has_carried order body told.0 message told.1 (Appends_more a b c (interim_text order.expects) (text_told body order.closes told.0) interim told.2))
  answered (Err fault) message interim told = tt

  pub broke : (result : Result After WireFault) → Message → Appends a b (interim_text order.expects) → OnErr result ToldInPart → IfErr result (λ fault. fault ≡ Write) → IfErr result (Breaks store now before after a c old new)
  broke (Ok next) message interim told is = tt
  broke (Err fault) message interim told is =
      subst (Breaks store now before after a c old new) (sym is) (in_answer order body told.0 message told.1 (behind a b c (interim_text order.expects) (text_told body order.closes told.0) interim told.2))

-- nothing was applied of a message that was not received
pub not_received : {S : Type 0} (store : Ghosts S) (now : ℕ) (before after : List ℕ → Type 0) (a b : Option (List ℕ)) (db : Held S) (fault : WireFault) → FailedReceiving before after a b fault → Breaks store now before after a b db db fault
not_received store now before after a b db Read failed = (failed, refl)
not_received store now before after a b db Write failed = in_interim failed.0 failed.1 failed.2 failed.3 refl
not_received store now before after a b db Memory failed = (failed, refl)
not_received store now before after a b db Ended failed = absurd failed
