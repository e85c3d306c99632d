use Rattle.std.proofs.Common.{Err, ap, subst, sym, ◌∙◌}
use Rattle.std.proofs.lemmas.Result.{err_from_is_err_and}
use Rattle.std.specs.Prelude.{⊤}
use Rattle.sqlite.specs.Held.{state}
use Rattle.store_events.specs.Answers.{done_by}
use Rattle.store_events.proofs.ServingLemmas.{handed, wants_memory}
use Rattle.store_events.proofs.Staying.{stays_open, unasked}
use Rattle.store_events.proofs.Stood.{not_stood, stood}
use Rattle.store_rounds.specs.Looks.{StaysOpen}
use Rattle.store_events.proofs.stations.tell.Goals as goal

pub returns-in_err-answered-clause-connection : goal.returns-in_err-answered-clause-connection
returns-in_err-answered-clause-connection g c = stays_open g.S.Store c.args.connection.now c.args.connection.now _ (unasked (state g.S.Store c.args.connection.now))

pub returns-in_err-answered-clause-served : goal.returns-in_err-answered-clause-served
returns-in_err-answered-clause-served g c known =
    let old = c.args.connection.now in
    let told = err_from_is_err_and c.from_residual.result c.from_residual.ensures.1 in
    handed _ _ _ _ _ g.S.Store old old c.from_residual.result told.0 _ told.1 (told.2 ∙ c.in_err-answered.ensures.memory) (wants_memory _ _ _ _ _ g.S.Store old old (unasked (state g.S.Store old)))

pub returns-in_err-stand-clause-connection : goal.returns-in_err-stand-clause-connection
returns-in_err-stand-clause-connection g c =
    let told = err_from_is_err_and c.from_residual-in_err-stand.result c.from_residual-in_err-stand.ensures.1 in
    subst (StaysOpen g.S.Store c.args.connection.now c.stand.new.connection) (sym told.1) (record { keeps = c.in_err-stand.ensures.stands.whole.keeps; opened = λ clean. tt })

pub returns-in_err-stand-clause-served : goal.returns-in_err-stand-clause-served
returns-in_err-stand-clause-served g c known =
    let old = c.args.connection.now in
    let new = c.stand.new.connection in
    let made = c.in_err-stand.ensures in
    let told = err_from_is_err_and c.from_residual-in_err-stand.result c.from_residual-in_err-stand.ensures.1 in
    handed _ _ _ _ _ g.S.Store old new c.from_residual-in_err-stand.result told.0 _ told.1 told.2
    (not_stood g.S.Store old new c.args.account c.args.job.now c.args.standing.now (λ db. ⊤) (done_by c.args.told) known c.in_err-stand.field-0.0 (λ clean has is. made.undamaged clean has (ap (λ e. Err e) is)) made.stands)

pub returns-clause-connection : goal.returns-clause-connection
returns-clause-connection g c =
    let whole = c.in_ok-stand.ensures.stands.whole in
    record { keeps = whole.keeps; opened = λ clean _. (whole.opened clean).1 }

pub returns-clause-served : goal.returns-clause-served
returns-clause-served g c known =
    let made = c.in_ok-stand.ensures in
    stood g.S.Store c.args.connection.now c.stand.new.connection c.args.account c.args.job.now c.args.standing.now (λ db. ⊤) (done_by c.args.told) known c.in_ok-answered.answered c.in_ok-answered.ensures.answered made.stands
