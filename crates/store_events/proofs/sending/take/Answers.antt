use Rattle.std.proofs.Common.{◌≡◌, ℕ, pos, List, Some, Err, Result, IfOk, OnOk, sym, ap, refl, subst, ◌∙◌}
use Rattle.std.specs.FinMap.{get}
use Rattle.std.proofs.lemmas.Result.{err_from_is_err_and}
use Rattle.sqlite.specs.Held.{state}
use Rattle.sqlite.specs.Effect.{Database}
use Rattle.account_asks.specs.Asks.{PlainAsk, plain_ask}
use Rattle.account_asks.specs.Operations.{hands_in_document}
use Rattle.rows_statements.specs.NewDocuments.{first_of}
use Rattle.account_machine.specs.JobRequests.{document_taken, has_data, sent_document}
use Rattle.account_machine.specs.Requests.{refusing_ask_or}
use Rattle.account_rules.specs.declared.job.Job.{Job}
use Rattle.account_rules.specs.declared.job.Standing.{Standing}
use Rattle.account_rules.specs.declared.refusal.Refusal.{Refusal}
use Rattle.account_rules.specs.Standings.{IsStanding}
use Rattle.rows_statements.specs.Changed.{RestandsJob}
use Rattle.rows_statements.specs.Rows.{IsFree}
use Rattle.rows_statements.proofs.Retelling.{leaves_as}
use Rattle.rows_statements.specs.Alone.{OnlyAccount}
use Rattle.rows_tables.specs.Accounts.{job_at, HoldsRoom}
use Rattle.rows_tables.specs.Cells.{job_cells}
use Rattle.account_replies.specs.Places.{plain_place}
use Rattle.store_events.specs.ProofKnown.{TakesDocument}
use Rattle.store_events.specs.Serving.{ChangesRows, RowsHold}
use Rattle.store_events.proofs.Found.{job_in_room}
use Rattle.store_events.proofs.Made.{account_in_room}
use Rattle.store_events.proofs.Sent.{taken, told}
use Rattle.store_events.proofs.ServingLemmas.{changed, handed, not_changed}
use Rattle.store_events.proofs.StepLemmas.{refuses_ask_as}
use Rattle.store_events.proofs.Staying.{unasked}
use Rattle.store_events.proofs.sending.take.Goals as goal

-- what it makes of the tables, as an event has it
abbrev DoesTake : List ℕ → ℕ → PlainAsk → Job → Result Standing Refusal → Database → Database → Type 0
DoesTake name now ask job decided = ChangesRows (RowsHold name) (OnlyAccount name) (λ of db. HoldsRoom db name (refusing_ask_or of.0 ask decided (document_taken of.0 name now ask job)).room)

pub returns-in_err-restand_job-clause-served : goal.returns-in_err-restand_job-clause-served
returns-in_err-restand_job-clause-served g c known =
    let ask = plain_ask c.args.request.now.ask in
    let old = c.args.connection.now in
    let new = c.restand_job.new.connection in
    let job = c.args.job in
    let takes : TakesDocument (has_data ask) job.standing c.in-Ok.standing = subst (λ (d : Result Standing Refusal). IfOk d (TakesDocument (has_data ask) job.standing)) c.in-Ok.is c.requires.takes in
    let in_range : IsStanding c.in-Ok.standing = subst (λ (d : Result Standing Refusal). IfOk d IsStanding) c.in-Ok.is c.requires.in_range in
    let fault = err_from_is_err_and c.from_residual-in_err-restand_job.result c.from_residual-in_err-restand_job.ensures.1 in
    let made = c.in_err-restand_job.ensures in
    handed _ _ _ _ _ g.S.Store old new c.from_residual-in_err-restand_job.result fault.0 _ fault.1 fault.2
    (not_changed _ _ _ _ _ g.S.Store old new c.in_err-restand_job.field-0.0 made.restands.whole.keeps made.restands.whole.undone
    (λ clean has is readable. made.damaged clean has (ap (λ e. Err e) is) (subst (λ d. IsFree c.args.request.now.account d (state g.S.Store old).now) (sym (c.next_document-document.ensures job refl)) (subst (λ (d : Result Standing Refusal). OnOk d (IsFree c.args.request.now.account (sent_document ask job) (state g.S.Store old).now)) c.in-Ok.is readable)))
    (leaves_as g.S.Store old new (RestandsJob c.args.request.now.account ask.job c.in-Ok.standing (first_of ask.job c.next_document-document.result)) (DoesTake c.args.request.now.account c.args.request.now.now ask job c.args.decided)
    (λ clean has after it. (
      it.alone job (subst (λ (n : ℕ). job_at (state g.S.Store old).now c.args.request.now.account (pos n) ≡ Some (job_cells c.args.request.now.account job)) c.requires.number (known clean has).0),
      λ of held.
          let there : get of.0.jobs ask.job ≡ Some job = ap (get of.0.jobs) (sym c.requires.number) ∙ job_in_room _ c.args.request.now.account job (known clean has).0 c.requires.numbered.in_range.standing of.0 held.room in
          taken of.0 ask job there c.in-Ok.standing takes c.args.request.now.account c.args.request.now.now c.args.decided c.in-Ok.is (first_of ask.job c.next_document-document.result) (c.next_document-document.ensures job refl) in_range (c.args.request.now.ask_in_range.document_fits (ap hands_in_document c.requires.operation)) after (it.room of.0 held.room),
    ))
    made.restands.crash))

pub returns-clause-served : goal.returns-clause-served
returns-clause-served g c known =
    let ask = plain_ask c.args.request.now.ask in
    let old = c.args.connection.now in
    let new = c.restand_job.new.connection in
    let job = c.args.job in
    let name = c.args.request.now.account in
    let standing = c.in-Ok.standing in
    let takes : TakesDocument (has_data ask) job.standing standing = subst (λ (d : Result Standing Refusal). IfOk d (TakesDocument (has_data ask) job.standing)) c.in-Ok.is c.requires.takes in
    let in_range : IsStanding standing = subst (λ (d : Result Standing Refusal). IfOk d IsStanding) c.in-Ok.is c.requires.in_range in
    let made = c.in_ok-restand_job.ensures in
    changed _ _ _ _ _ g.S.Store old new c.in_ok-answered.answered made.restands.whole
    (λ clean has.
    let after = made.restands.made clean has in (
      after.0,
      after.1.alone job (subst (λ (n : ℕ). job_at (state g.S.Store old).now name (pos n) ≡ Some (job_cells name job)) c.requires.number (known clean has).0),
      λ of held.
          let there : get of.0.jobs ask.job ≡ Some job = ap (get of.0.jobs) (sym c.requires.number) ∙ job_in_room _ name job (known clean has).0 c.requires.numbered.in_range.standing of.0 held.room in
          let own = account_in_room _ name c.args.request.now.row (known clean has).1 of.0 held.room in (
            c.in_ok-answered.ensures.answered ∙ told of.0 ask job there standing takes name c.args.request.now.now c.args.decided c.in-Ok.is c.requires.number c.args.request.now.row own (plain_place c.place.result) c.place.ensures.place _ c.made_names.ensures,
            taken of.0 ask job there standing takes name c.args.request.now.now c.args.decided c.in-Ok.is (first_of ask.job c.next_document-document.result) (c.next_document-document.ensures job refl) in_range (c.args.request.now.ask_in_range.document_fits (ap hands_in_document c.requires.operation)) (state g.S.Store new).now (after.1.room of.0 held.room),
          ),
    ))
    (leaves_as g.S.Store old new (RestandsJob c.args.request.now.account ask.job c.in-Ok.standing (first_of ask.job c.next_document-document.result)) (DoesTake c.args.request.now.account c.args.request.now.now ask job c.args.decided)
    (λ clean has after it. (
      it.alone job (subst (λ (n : ℕ). job_at (state g.S.Store old).now c.args.request.now.account (pos n) ≡ Some (job_cells c.args.request.now.account job)) c.requires.number (known clean has).0),
      λ of held.
          let there : get of.0.jobs ask.job ≡ Some job = ap (get of.0.jobs) (sym c.requires.number) ∙ job_in_room _ c.args.request.now.account job (known clean has).0 c.requires.numbered.in_range.standing of.0 held.room in
          taken of.0 ask job there c.in-Ok.standing takes c.args.request.now.account c.args.request.now.now c.args.decided c.in-Ok.is (first_of ask.job c.next_document-document.result) (c.next_document-document.ensures job refl) in_range (c.args.request.now.ask_in_range.document_fits (ap hands_in_document c.requires.operation)) after (it.room of.0 held.room),
    ))
    made.restands.crash)

pub returns-in-Err-clause-served : goal.returns-in-Err-clause-served
returns-in-Err-clause-served g c known =
    let request = c.args.request.now in
    let ask = plain_ask request.ask in
    let old = c.args.connection.now in
    refuses_ask_as g.S.Store old old request.account (unasked (state g.S.Store old)) (λ room devices. refusing_ask_or room ask c.args.decided (document_taken room request.account request.now ask c.args.job))
    ask c.in-Err.refusal c.request_refused.result c.request_refused.ensures.answered c.request_refused.ensures.memory
    (λ clean has of held. ap (λ (d : Result Standing Refusal). refusing_ask_or of.0 ask d (document_taken of.0 request.account request.now ask c.args.job)) c.in-Err.is)

pub returns-clause-connection : goal.returns-clause-connection
returns-clause-connection g c =
    let whole = c.in_ok-restand_job.ensures.restands.whole in
    record { keeps = whole.keeps; opened = λ clean _. (whole.opened clean).1 }
