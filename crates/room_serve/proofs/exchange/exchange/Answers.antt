use Rattle.std.proofs.Common.{◌≤◌, ℕ, List, length, refl, sym, subst}
use Rattle.listen_http.specs.Exchange.{Takes}
use Rattle.listen_http.specs.Http.{Http, Carried}
use Rattle.input_http.specs.Texts.{interim_text, refusal_text}
use Rattle.listen_http.proofs.Streams.{Appends_more}
use Rattle.room_serve.specs.Exchanges.{Breaks, has_nothing, has_refused, in_refusal}
use Rattle.room_serve.proofs.Exchanging.{answered, behind, broke}
use Rattle.room_serve.proofs.exchange.exchange.Goals as goal

pub carry_out-requires-clause-long : goal.carry_out-requires-clause-long
carry_out-requires-clause-long g c =
    let header = rw c.in-Carried.is at c.in_ok-receive.ensures.header in
    subst (λ (b : List ℕ). 8 ≤ length b) (sym c.as_slice.ensures.value) header

pub returns-in-Nothing-clause-exchange : goal.returns-in-Nothing-clause-exchange
returns-in-Nothing-clause-exchange g c =
    let received = rw c.in-Nothing.is at c.in_ok-receive.ensures.received in
    has_nothing received.0 received.1 refl

pub returns-in-Ok-clause-exchange : goal.returns-in-Ok-clause-exchange
returns-in-Ok-clause-exchange g c =
    let received = rw c.in-Refused.is at c.in_ok-receive.ensures.received in
    let given = g.W.Sink.given in
    has_refused received.0 c.in-Refused.refusal received.1 (Appends_more (given c.args.writer.now) (given c.receive.new.writer) (given c.send_refusal.new.writer) (interim_text received.0) (refusal_text c.in-Refused.refusal) received.2 c.in-Ok.ensures.sent) refl

pub returns-in-Err-clause-fault : goal.returns-in-Err-clause-fault
returns-in-Err-clause-fault g c =
    let received = rw c.in-Refused.is at c.in_ok-receive.ensures.received in
    let given = g.W.Sink.given in
    let left = g.R.Source.left in
    subst (Breaks g.S.Store c.args.now (left c.args.reader.now) (left c.receive.new.reader) (given c.args.writer.now) (given c.send_refusal.new.writer) c.args.store.now c.args.store.now) (sym c.in-Err.ensures.cause)
    (in_refusal received.0 c.in-Refused.refusal received.1 (behind (given c.args.writer.now) (given c.receive.new.writer) (given c.send_refusal.new.writer) (interim_text received.0) (refusal_text c.in-Refused.refusal) received.2 c.in-Err.ensures.front) refl)

pub returns-in-Carried-clause-exchange : goal.returns-in-Carried-clause-exchange
returns-in-Carried-clause-exchange g c =
    let received = rw c.in-Carried.is at c.in_ok-receive.ensures.received in
    let given = g.W.Sink.given in
    let left = g.R.Source.left in
    let order = c.in-Carried.order in
    let message = subst (λ (b : List ℕ). Takes (left c.args.reader.now) (left c.receive.new.reader) (λ text rest. Http text (Carried order b rest))) (sym c.as_slice.ensures.value) received.0 in
    answered g.S.Store c.args.now (left c.args.reader.now) (left c.receive.new.reader) (given c.args.writer.now) (given c.receive.new.writer) (given c.carry_out.new.writer) c.args.store.now c.carry_out.new.store order c.as_slice.result.now
    c.carry_out.result message received.1 c.carry_out.ensures.told

pub returns-in-Carried-clause-fault : goal.returns-in-Carried-clause-fault
returns-in-Carried-clause-fault g c =
    let received = rw c.in-Carried.is at c.in_ok-receive.ensures.received in
    let given = g.W.Sink.given in
    let left = g.R.Source.left in
    let order = c.in-Carried.order in
    let message = subst (λ (b : List ℕ). Takes (left c.args.reader.now) (left c.receive.new.reader) (λ text rest. Http text (Carried order b rest))) (sym c.as_slice.ensures.value) received.0 in
    broke g.S.Store c.args.now (left c.args.reader.now) (left c.receive.new.reader) (given c.args.writer.now) (given c.receive.new.writer) (given c.carry_out.new.writer) c.args.store.now c.carry_out.new.store order c.as_slice.result.now
    c.carry_out.result message received.1 c.carry_out.ensures.front c.carry_out.ensures.cause
