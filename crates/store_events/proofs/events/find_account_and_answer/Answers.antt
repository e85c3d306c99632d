use Rattle.std.proofs.Common.{Err, option_map, refl, ap, ◌∙◌}
use Rattle.std.proofs.lemmas.Result.{err_from_is_err_and}
use Rattle.sqlite.specs.Held.{state}
use Rattle.account_machine.specs.Events.{plain_event}
use Rattle.account_machine.specs.Machine.{answered, answered_open}
use Rattle.account_rules.specs.declared.refusal.Word.TheVariants.{NoAccount}
use Rattle.rows_tables.specs.Cells.{account_cells}
use Rattle.store_events.specs.Answers.{of_step, refused_by}
use Rattle.store_events.proofs.Opened.{is_there, opened_answers, unopened_answers, unopened_line}
use Rattle.store_events.proofs.ServingLemmas.{read_failed_as}
use Rattle.store_rounds.proofs.LookLemmas.{read_passed}
use Rattle.store_events.proofs.events.find_account_and_answer.Goals as goal

pub returns-in_err-find_account-clause-served : goal.returns-in_err-find_account-clause-served
returns-in_err-find_account-clause-served g c =
    let told = err_from_is_err_and c.from_residual.result c.from_residual.ensures.1 in
    read_failed_as _ _ _ _ _ g.S.Store _ _ c.from_residual.result told.0 _ told.1 told.2 c.in_err-find_account.ensures.reads
    (λ clean has is readable. c.in_err-find_account.ensures.damaged clean has (ap (λ e. Err e) is) readable.account)

pub returns-in-Some-clause-served : goal.returns-in-Some-clause-served
returns-in-Some-clause-served g c =
    let old = c.args.connection.now in
    let mid = c.find_account.new.connection in
    let passed = read_passed g.S.Store old mid _ c.in_ok-find_account.ensures.reads in
    let served = c.answer_account_line.ensures.served in
    opened_answers g.S.Store c.args.account (λ room devices. answered room devices c.args.now (plain_event c.args.e.now)) old mid c.answer_account_line.new.connection passed c.in-Some.field-0
    (λ clean has. c.in_ok-find_account.ensures.found clean has ∙ ap (option_map (account_cells c.args.account)) c.in-Some.is)
    (λ room devices. of_step (answered_open room devices c.args.now (plain_event c.args.e.now))) (λ room devices. (answered_open room devices c.args.now (plain_event c.args.e.now)).room) (λ room devices. (refl, refl))
    c.answer_account_line.result (λ found readable. readable.where_open (is_there c.args.account c.in-Some.field-0 (state g.S.Store old).now found)) served.connection (λ opened. served)

pub returns-in-None-clause-served : goal.returns-in-None-clause-served
returns-in-None-clause-served g c =
    let old = c.args.connection.now in
    let mid = c.find_account.new.connection in
    let passed = read_passed g.S.Store old mid _ c.in_ok-find_account.ensures.reads in
    unopened_answers g.S.Store c.args.account (λ room devices. answered room devices c.args.now (plain_event c.args.e.now)) old mid passed
    (λ clean has. c.in_ok-find_account.ensures.found clean has ∙ ap (option_map (account_cells c.args.account)) c.in-None.is)
    (refused_by NoAccount) (λ devices. unopened_line c.args.now (plain_event c.args.e.now) c.requires.line) c.refused_by.result c.refused_by.ensures.answered c.refused_by.ensures.memory
