use Rattle.std.proofs.Common.{[], Err, sym, ap, ◌∙◌}
use Rattle.std.specs.Prelude.{⊤}
use Rattle.std.proofs.lemmas.Result.{err_from_is_err_and}
use Rattle.account_asks.specs.Asks.{plain_ask}
use Rattle.account_machine.specs.JobRequests.{acted}
use Rattle.account_machine.specs.Requests.{doing_ask}
use Rattle.account_machine.specs.Steps.{with_moved}
use Rattle.store_events.specs.Answers.{request_done}
use Rattle.store_events.proofs.ServingLemmas.{handed}
use Rattle.store_events.proofs.StepLemmas.{responds_as, refuses_ask_as}
use Rattle.store_events.proofs.Stood.{not_stood, stood}
use Rattle.sqlite.specs.Held.{state}
use Rattle.store_events.proofs.Staying.{unasked}
use Rattle.store_events.proofs.job_requests.act.Goals as goal

pub returns-in_err-stand-clause-served : goal.returns-in_err-stand-clause-served
returns-in_err-stand-clause-served g c known =
    let ask = plain_ask c.args.request.now.ask in
    let old = c.args.connection.now in
    let new = c.stand.new.connection in
    let job = c.args.job.now in
    let standing = c.in-Ok.standing in
    let made = c.in_err-stand.ensures in
    let fault = err_from_is_err_and c.from_residual-in_err-stand.result c.from_residual-in_err-stand.ensures.1 in
    responds_as g.S.Store old new c.args.request.now.account (λ room devices. doing_ask (with_moved room job.job standing) ask []) (λ room devices. acted room ask c.args.decided) c.from_residual-in_err-stand.result
    (λ clean has of held. ap (λ n. doing_ask (with_moved of.0 n standing) ask []) c.requires.number ∙ ap (acted of.0 ask) (sym c.in-Ok.is))
    (handed _ _ _ _ _ g.S.Store old new c.from_residual-in_err-stand.result fault.0 _ fault.1 fault.2
    (not_stood g.S.Store old new c.args.request.now.account job standing (λ db. ⊤) (request_done ask ask.job []) known c.in_err-stand.field-0.0 (λ clean has is. made.undamaged clean has (ap (λ e. Err e) is)) made.stands))

pub returns-clause-served : goal.returns-clause-served
returns-clause-served g c known =
    let ask = plain_ask c.args.request.now.ask in
    let old = c.args.connection.now in
    let new = c.stand.new.connection in
    let job = c.args.job.now in
    let standing = c.in-Ok.standing in
    let made = c.in_ok-stand.ensures in
    responds_as g.S.Store old new c.args.request.now.account (λ room devices. doing_ask (with_moved room job.job standing) ask []) (λ room devices. acted room ask c.args.decided) _
    (λ clean has of held. ap (λ n. doing_ask (with_moved of.0 n standing) ask []) c.requires.number ∙ ap (acted of.0 ask) (sym c.in-Ok.is))
    (stood g.S.Store old new c.args.request.now.account job standing (λ db. ⊤) (request_done ask ask.job []) known c.in_ok-answered.answered c.in_ok-answered.ensures.answered made.stands)

pub returns-in-Err-clause-served : goal.returns-in-Err-clause-served
returns-in-Err-clause-served g c known =
    let ask = plain_ask c.args.request.now.ask in
    let old = c.args.connection.now in
    refuses_ask_as g.S.Store old old c.args.request.now.account (unasked (state g.S.Store old)) (λ room devices. acted room ask c.args.decided) ask c.in-Err.refusal c.request_refused.result c.request_refused.ensures.answered c.request_refused.ensures.memory
    (λ clean has of held. ap (acted of.0 ask) c.in-Err.is)
