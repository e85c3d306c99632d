use Rattle.std.proofs.Common.{◌≡◌, ◌≤◌, Result, Ok, Err, OnErr, sym, subst, ◌∙◌}
use Rattle.std.proofs.lemmas.Bool.{not-true}
use Rattle.std.proofs.lemmas.Result.{err_from_is_err_and}
use Rattle.sqlite.specs.Held.{state}
use Rattle.sqlite.specs.State.{HasCleanDisk}
use Rattle.account_machine.specs.Events.{plain_event}
use Rattle.account_machine.specs.declared.verdict.Answered.{Answered}
use Rattle.account_rules.specs.Limits.{last_moment}
use Rattle.store_events.specs.Applied.{AppliesFully}
use Rattle.store_rounds.specs.declared.fault.StoreFault.{StoreFault}
use Rattle.store_events.proofs.Applied.{applied_answer, applied_fault, going}
use Rattle.store_events.proofs.Moments.{in_time, same_moment}
use Rattle.store_events.proofs.applying.apply.Goals as goal

pub returns-in_err-answer_and_note_committed-clause-applies : goal.returns-in_err-answer_and_note_committed-clause-applies
returns-in_err-answer_and_note_committed-clause-applies g c mode =
    let old = c.args.connection.now in
    let new = c.answer_and_note_committed.new.connection in
    let e = plain_event c.args.e.now in
    let moment = c.in-Some.now in
    let same = same_moment c.new.result c.args.now moment c.in-Some.is c.new.ensures.value in
    let early : moment ≤ last_moment = subst (λ n. n ≤ last_moment) (sym same) (in_time c.new.result c.args.now moment c.in-Some.is c.new.ensures.none) in
    let told = err_from_is_err_and c.from_residual.result c.from_residual.ensures.1 in
    let kept : HasCleanDisk (state g.S.Store new) → (state g.S.Store new).in_transaction ≡ (state g.S.Store old).in_transaction = λ clean. subst (λ (r : Result Answered StoreFault). OnErr r ((state g.S.Store new).in_transaction ≡ (state g.S.Store old).in_transaction)) told.1 (mode clean) in
    subst (λ n. AppliesFully n e (state g.S.Store old) (state g.S.Store new) c.from_residual.result) same
    (subst (λ (r : Result Answered StoreFault). AppliesFully moment e (state g.S.Store old) (state g.S.Store new) r) (sym told.1)
    (subst (λ f. AppliesFully moment e (state g.S.Store old) (state g.S.Store new) (Err f)) (sym told.2)
    (applied_fault g.S.Store moment early old new e c.in_err-answer_and_note_committed.field-0.0 (λ alone. c.is_under_way-shares.ensures.settled (c.is_under_way-shares.ensures.mode ∙ not-true _ alone)) kept c.in_err-answer_and_note_committed.ensures.served c.in_err-answer_and_note_committed.ensures.short c.in_err-answer_and_note_committed.ensures.on_disk c.in_err-answer_and_note_committed.ensures.shut)))

pub returns-in_err-answer_and_note_committed-clause-connection : goal.returns-in_err-answer_and_note_committed-clause-connection
returns-in_err-answer_and_note_committed-clause-connection g c =
    (going g.S.Store c.in-Some.now c.args.connection.now c.answer_and_note_committed.new.connection (plain_event c.args.e.now) _ c.in_err-answer_and_note_committed.ensures.served).keeps

pub returns-clause-applies : goal.returns-clause-applies
returns-clause-applies g c mode =
    let new = c.answer_and_note_committed.new.connection in
    let e = plain_event c.args.e.now in
    let moment = c.in-Some.now in
    let same = same_moment c.new.result c.args.now moment c.in-Some.is c.new.ensures.value in
    let early : moment ≤ last_moment = subst (λ n. n ≤ last_moment) (sym same) (in_time c.new.result c.args.now moment c.in-Some.is c.new.ensures.none) in
    let told = c.in_ok-answer_and_note_committed in
    subst (λ n. AppliesFully n e (state g.S.Store c.args.connection.now) (state g.S.Store new) (Ok told.field-0)) same
    (applied_answer g.S.Store moment early c.args.connection.now new e told.field-0 told.ensures.served told.ensures.short told.ensures.asks told.ensures.on_disk told.ensures.shut)

pub returns-clause-connection : goal.returns-clause-connection
returns-clause-connection g c =
    (going g.S.Store c.in-Some.now c.args.connection.now c.answer_and_note_committed.new.connection (plain_event c.args.e.now) _ c.in_ok-answer_and_note_committed.ensures.served).keeps
