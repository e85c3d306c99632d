use Rattle.std.proofs.Common.{◌≡◌, Option, Some, IfSome, OnOk, Result, sym, subst, ◌∙◌, arith}
use Rattle.std.specs.FinMap.{get}
use Rattle.sqlite.specs.Effect.{Database}
use Rattle.sqlite.specs.State.{HasCleanDisk}
use Rattle.sqlite.specs.Held.{state}
use Rattle.account_asks.specs.Asks.{plain_ask}
use Rattle.account_machine.specs.JobRequests.{document_taken, sent, sent_document, has_data}
use Rattle.account_machine.specs.Requests.{refusing_ask_or}
use Rattle.account_rules.specs.declared.job.Job.{Job}
use Rattle.account_rules.specs.declared.job.Standing.{Standing}
use Rattle.account_rules.specs.declared.refusal.Refusal.{Refusal}
use Rattle.rows_statements.specs.Queues.{IsNumbered}
use Rattle.rows_statements.specs.Rows.{IsFree}
use Rattle.store_rounds.specs.ProofKnown.{HasAccountRow, HasJobRow}
use Rattle.store_events.proofs.Found.{act_of, there_still, none_is_refused}
use Rattle.store_events.proofs.Sent.{sent_found}
use Rattle.store_rounds.proofs.LookLemmas.{look_passed, goes_after}
use Rattle.store_events.proofs.ServingLemmas.{serves_after_so}
use Rattle.store_events.proofs.StepLemmas.{responds_as, refuses_ask_as}
use Rattle.account_rules.specs.Acts.{SendDocument}
use Rattle.account_rules.specs.Moves.{move}
use Rattle.store_events.proofs.sending.send.Goals as goal

pub returns-clause-served : goal.returns-clause-served
returns-clause-served g c opened =
    let old = c.args.connection.now in
    let mid = c.look_up.new.connection in
    let new = c.take.new.connection in
    let ask = plain_ask c.args.request.now.ask in
    let name = c.args.request.now.account in
    let job = c.in-Some.job in
    let decided = c.added-decided.result in
    let looked = c.in_ok-job.ensures in
    let passed = look_passed g.S.Store old mid _ looked.looks in
    let numbered = subst (λ (o : Option Job). IfSome o (λ job. (job.job ≡ ask.job) × IsNumbered job)) c.in-Some.is looked.in_range in
    responds_as g.S.Store old new name (λ room devices. refusing_ask_or room ask decided (document_taken room name c.args.request.now.now ask job)) (λ room devices. sent room name c.args.request.now.now ask) c.take.result
    (λ clean has of held.
    let was_clean : HasCleanDisk (state g.S.Store mid) = omega (arith, c.take.ensures.connection.keeps.clean, clean) in
    let there : get of.0.jobs ask.job ≡ Some job = sym (looked.found was_clean has of.0 held.room) ∙ c.in-Some.is in
    sent_found of.0 name c.args.request.now.now ask job there decided c.added-decided.ensures.moved)
    (serves_after_so _ _ _ _ _ g.S.Store old mid passed new c.take.result (λ (db : Database). HasJobRow name job db × HasAccountRow name c.args.request.now.row db)
    (λ clean has readable.
    let was_clean : HasCleanDisk (state g.S.Store mid) = omega (arith, c.take.ensures.connection.keeps.clean, clean) in
    subst (λ (d : Result Standing Refusal). OnOk d (IsFree name (sent_document ask job) (state g.S.Store old).now)) (sym c.added-decided.ensures.moved)
    (act_of name ask.job _ (state g.S.Store old).now readable job numbered.0 numbered.1
    (subst (λ (o : Option Job). IfSome o (λ job. HasJobRow name job (state g.S.Store old).now)) c.in-Some.is (looked.is_there was_clean has))))
    c.take.ensures.connection
    (λ clean new_clean has. (
      there_still name job (state g.S.Store old).now (state g.S.Store mid).now (passed.same clean has).now
          (subst (λ (o : Option Job). IfSome o (λ job. HasJobRow name job (state g.S.Store old).now)) c.in-Some.is (looked.is_there clean has)),
      subst (HasAccountRow name c.args.request.now.row) (sym (passed.same clean has).now) (opened new_clean has),
    ))
    c.take.ensures.served)

pub returns-clause-connection : goal.returns-clause-connection
returns-clause-connection g c = goes_after g.S.Store c.args.connection.now c.look_up.new.connection c.take.new.connection c.take.result (look_passed g.S.Store _ _ _ c.in_ok-job.ensures.looks) c.take.ensures.connection

pub returns-in_default-clause-served : goal.returns-in_default-clause-served
returns-in_default-clause-served g c opened =
    let request = c.args.request.now in
    let ask = plain_ask request.ask in
    let looked = c.in_ok-job.ensures in
    refuses_ask_as g.S.Store c.args.connection.now c.look_up.new.connection request.account (look_passed g.S.Store _ _ _ looked.looks) (λ room devices. sent room request.account request.now ask)
    ask c.no_job.result c.request_refused.result c.request_refused.ensures.answered c.request_refused.ensures.memory
    (λ clean has of held. none_is_refused of.0 ask c.no_job.result c.no_job.ensures (sym (looked.found clean has of.0 held.room) ∙ c.in_default.is)
    (λ (job : Job). refusing_ask_or of.0 ask (move (SendDocument ask.last (has_data ask)) job.standing) (document_taken of.0 request.account request.now ask job)))
