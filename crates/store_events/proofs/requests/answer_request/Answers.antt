use Rattle.std.proofs.Common.{Some, Ok, Err, option_map, refl, sym, ap, ◌∙◌}
use Rattle.std.proofs.lemmas.Result.{err_from_is_err_and}
use Rattle.sqlite.specs.Held.{state}
use Rattle.account_asks.specs.Asks.{ask_of}
use Rattle.account_machine.specs.Machine.{answered, responded_to}
use Rattle.account_machine.specs.Steps.{Step}
use Rattle.account_machine.specs.Events.{OfAccount, Ipp}
use Rattle.account_machine.specs.Verdicts.{line_refused}
use Rattle.account_machine.specs.declared.event.Reply.TheVariants as reply
use Rattle.account_machine.specs.declared.verdict.Answered.{Answered}
use Rattle.account_machine.specs.declared.verdict.Verdict.{Verdict}
use Rattle.account_rules.specs.declared.refusal.Word.TheVariants.{NoAccount}
use Rattle.store_events.specs.Answers.{of_response, of_step}
use Rattle.rows_tables.specs.Cells.{account_cells}
use Rattle.store_events.proofs.Opened.{is_there, not_short, opened_answers, requested_so, unopened_answers, unopened_request}
use Rattle.store_events.proofs.ServingLemmas.{read_failed_as}
use Rattle.store_rounds.proofs.LookLemmas.{read_passed}
use Rattle.store_events.proofs.requests.answer_request.Goals as goal

-- the account is not open, and the event came to this
abbrev without_account : Verdict → Answered
without_account verdict = record { reply = reply.NoAccount; verdict = verdict }

pub returns-in_default-clause-untouched : goal.returns-in_default-clause-untouched
returns-in_default-clause-untouched g c short = refl

pub returns-in_default-2-clause-served : goal.returns-in_default-2-clause-served
returns-in_default-2-clause-served g c =
    let old = c.args.connection.now in
    let mid = c.find_account.new.connection in
    let name = c.args.account in
    let now = c.args.now in
    let body = c.args.body.now in
    unopened_answers g.S.Store name (λ room devices. answered room devices now (OfAccount name (Ipp c.args.body.now))) old mid (read_passed g.S.Store old mid _ c.in_ok-row.ensures.reads)
    (λ clean has. c.in_ok-row.ensures.found clean has ∙ ap (option_map (account_cells name)) c.in_default-2.is)
    (without_account (line_refused NoAccount)) (λ devices. unopened_request now name body c.in-Some.header (sym c.read_header.ensures.header ∙ c.in-Some.is)) (Ok (without_account c.line_refused.result)) (ap without_account c.line_refused.ensures) tt

pub returns-in_err-row-clause-served : goal.returns-in_err-row-clause-served
returns-in_err-row-clause-served g c =
    let told = err_from_is_err_and c.from_residual.result c.from_residual.ensures.1 in
    read_failed_as _ _ _ _ _ g.S.Store _ _ c.from_residual.result told.0 _ told.1 told.2 c.in_err-row.ensures.reads
    (λ clean has is readable. c.in_err-row.ensures.damaged clean has (ap (λ e. Err e) is) (readable (not_short c.args.body.now c.in-Some.header (sym c.read_header.ensures.header ∙ c.in-Some.is))).account)

pub returns-clause-served : goal.returns-clause-served
returns-clause-served g c =
    let old = c.args.connection.now in
    let mid = c.find_account.new.connection in
    let new = c.answer_body.new.connection in
    let name = c.args.account in
    let now = c.args.now in
    let body = c.args.body.now in
    let header = c.in-Some.header in
    let passed = read_passed g.S.Store old mid _ c.in_ok-row.ensures.reads in
    opened_answers g.S.Store name (λ room devices. answered room devices now (OfAccount name (Ipp c.args.body.now))) old mid new passed c.in-Some-2.row
    (λ clean has. c.in_ok-row.ensures.found clean has ∙ ap (option_map (account_cells name)) c.in-Some-2.is)
    (λ room devices. of_response (responded_to room devices name now header (ask_of name body))) (λ room devices. (responded_to room devices name now header (ask_of name body)).room)
    (λ room devices.
    let so = requested_so room devices now name body header (sym c.read_header.ensures.header ∙ c.in-Some.is) in
    (ap of_step so, ap (λ (s : Step). Some s.room) so))
    c.answer_body.result (λ found readable. (readable (not_short body header (sym c.read_header.ensures.header ∙ c.in-Some.is))).where_open (is_there name c.in-Some-2.row (state g.S.Store old).now found)) c.answer_body.ensures.connection
    c.answer_body.ensures.served
