use Rattle.std.proofs.Common.{Err, ap}
use Rattle.std.proofs.lemmas.Result.{err_from_is_err_and}
use Rattle.account_machine.specs.Events.{plain_event}
use Rattle.store_events.proofs.Knocking.{event_after, event_failed}
use Rattle.store_rounds.proofs.LookLemmas.{look_passed}
use Rattle.store_events.proofs.events.answer_if_usable.Goals as goal

pub returns-in_err-ready-clause-served : goal.returns-in_err-ready-clause-served
returns-in_err-ready-clause-served g c =
    let told = err_from_is_err_and c.from_residual.result c.from_residual.ensures.1 in
    event_failed g.S.Store c.args.now (plain_event c.args.e.now) _ _ c.from_residual.result told.0 _ told.1 told.2 c.in_err-ready.ensures.looks (λ is. c.in_err-ready.ensures.damaged (ap (λ e. Err e) is))

pub returns-clause-served : goal.returns-clause-served
returns-clause-served g c =
    let looks = c.in_ok-ready.ensures.looks in
    event_after g.S.Store c.args.now (plain_event c.args.e.now) c.args.connection.now c.ready.new.connection c.answer_event-2.new.connection c.answer_event-2.result
    (look_passed g.S.Store c.args.connection.now c.ready.new.connection tt looks) c.answer_event-2.ensures.served
