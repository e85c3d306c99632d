use Rattle.std.proofs.Common.{◌≡◌, Bool, false, Option, Some, Err, IfSome, OnOk, Result, sym, ap, subst, ◌∙◌, arith, rules}
use Rattle.std.proofs.lemmas.Result.{err_from_is_err_and}
use Rattle.std.specs.FinMap.{get}
use Rattle.sqlite.specs.Effect.{Database}
use Rattle.sqlite.specs.State.{HasCleanDisk}
use Rattle.sqlite.specs.Held.{state}
use Rattle.account_asks.specs.Asks.{plain_ask}
use Rattle.account_machine.specs.JobRequests.{acted, release_of, has_password}
use Rattle.account_rules.specs.Acts.{ReleaseJob}
use Rattle.account_rules.specs.JobStates.{is_released}
use Rattle.account_rules.specs.declared.job.Job.{Job}
use Rattle.account_rules.specs.declared.job.Standing.{Standing}
use Rattle.account_rules.specs.declared.refusal.Refusal.{Refusal}
use Rattle.rows_tables.specs.Accounts.{HoldsRoom}
use Rattle.rows_tables.specs.Keyed.{HasSchema}
use Rattle.rows_statements.specs.Queues.{IsNumbered}
use Rattle.store_rounds.specs.ProofKnown.{HasJobRow}
use Rattle.store_events.specs.Reading.{GoesByQuota, QuotaIsReadable}
use Rattle.store_events.proofs.Found.{act_of, release_of_found, there_still, no_act_is_done}
use Rattle.store_events.proofs.Stationed.{owner_reads}
use Rattle.store_events.proofs.ServingLemmas.{look_failed_as, serves_after, serves_after_so}
use Rattle.store_rounds.proofs.LookLemmas.{look_passed, passed_then}
use Rattle.store_events.proofs.StepLemmas.{responds_as, refuses_ask_as}
use Rattle.account_state.specs.Sums.{left_in}
use Rattle.store_events.proofs.job_requests.release.Goals as goal

pub returns : goal.returns
returns g c =
    let old = c.args.connection.now in
    let mid = c.look_up.new.connection in
    let last = c.keep_to_quota.new.connection in
    let new = c.act.new.connection in
    let ask = plain_ask c.args.request.now.ask in
    let name = c.args.request.now.account in
    let job = c.in-Some.job in
    let looked = c.in_ok-job.ensures in
    let first = look_passed g.S.Store old mid _ looked.looks in
    let passed = passed_then (state g.S.Store old) (state g.S.Store mid) (state g.S.Store last) first (look_passed g.S.Store mid last _ c.in_ok-decided.ensures.looks) in
    let decided = c.in_ok-decided.decided in
    record {
      served = responds_as g.S.Store old new name (λ room devices. acted room ask decided) (λ room devices. acted room ask (release_of room c.args.request.now.now ask)) c.act.result
          (λ clean has of held.
          let last_clean : HasCleanDisk (state g.S.Store last) = omega (arith, c.act.ensures.connection.keeps.clean, clean) in
          let mid_clean : HasCleanDisk (state g.S.Store mid) = omega (arith, c.in_ok-decided.ensures.looks.connection.keeps.clean, last_clean) in
          let same = (first.same mid_clean has).now in
          let there : get of.0.jobs ask.job ≡ Some job = sym (looked.found mid_clean has of.0 held.room) ∙ c.in-Some.is in
          let kept = c.in_ok-decided.ensures.kept last_clean (subst HasSchema (sym same) has) of.0 (subst (λ (db : Database). HoldsRoom db name of.0) (sym same) held.room) in
          ap (λ (d : Result Standing Refusal). acted of.0 ask d) (release_of_found of.0 ask c.args.request.now.now job there _ (search rules) c.released-asked.result decided c.released-asked.ensures.moved kept))
          (serves_after_so _ _ _ _ _ g.S.Store old last passed new c.act.result (HasJobRow name job) (λ clean has readable. tt) c.act.ensures.connection
          (λ clean _ has. there_still name job (state g.S.Store old).now (state g.S.Store last).now (passed.same clean has).now
          (subst (λ (o : Option Job). IfSome o (λ job. HasJobRow name job (state g.S.Store old).now)) c.in-Some.is (looked.is_there (omega (arith, c.in_ok-decided.ensures.looks.connection.keeps.clean, clean)) has)))
          c.act.ensures.served);
    }

pub returns-in_err-decided : goal.returns-in_err-decided
returns-in_err-decided g c =
    let old = c.args.connection.now in
    let mid = c.look_up.new.connection in
    let last = c.keep_to_quota.new.connection in
    let ask = plain_ask c.args.request.now.ask in
    let name = c.args.request.now.account in
    let job = c.in-Some.job in
    let looked = c.in_ok-job.ensures in
    let kept = c.in_err-decided.ensures in
    let first = look_passed g.S.Store old mid _ looked.looks in
    let told = err_from_is_err_and c.from_residual-in_err-decided.result c.from_residual-in_err-decided.ensures.1 in
    let numbered = subst (λ (o : Option Job). IfSome o (λ job. (job.job ≡ ask.job) × IsNumbered job)) c.in-Some.is looked.in_range in
    record {
      served = serves_after _ _ _ _ _ g.S.Store old mid first {Rest = λ db. OnOk c.released-asked.result (is_released job.standing.state ≡ false → QuotaIsReadable name c.args.request.now.now db)} last c.from_residual-in_err-decided.result
          (λ clean has readable.
          let mid_clean : HasCleanDisk (state g.S.Store mid) = omega (arith, kept.looks.connection.keeps.clean, clean) in
          owner_reads job.standing _ c.released-asked.result c.released-asked.ensures.moved
          (subst (λ (b : Bool). GoesByQuota (ReleaseJob b) job.standing → QuotaIsReadable name c.args.request.now.now (state g.S.Store old).now) (sym (search rules))
          (act_of name ask.job _ (state g.S.Store old).now readable job numbered.0 numbered.1 (subst (λ (o : Option Job). IfSome o (λ job. HasJobRow name job (state g.S.Store old).now)) c.in-Some.is (looked.is_there mid_clean has)))))
          (look_failed_as _ _ _ _ _ g.S.Store mid last c.from_residual-in_err-decided.result told.0 _ told.1 told.2 kept.looks (λ clean has is readable. kept.damaged clean has (ap (λ e. Err e) is) readable));
    }

pub returns-in_default : goal.returns-in_default
returns-in_default g c =
    let ask = plain_ask c.args.request.now.ask in
    let looked = c.in_ok-job.ensures in
    record {
      served = refuses_ask_as g.S.Store c.args.connection.now c.look_up.new.connection c.args.request.now.account (look_passed g.S.Store _ _ _ looked.looks) (λ room devices. acted room ask (release_of room c.args.request.now.now ask))
          ask c.no_job.result c.request_refused.result c.request_refused.ensures.answered c.request_refused.ensures.memory
          (λ clean has of held. no_act_is_done of.0 ask c.no_job.result c.no_job.ensures (sym (looked.found clean has of.0 held.room) ∙ c.in_default.is) (λ (job : Job). ReleaseJob (has_password job) (left_in of.0 c.args.request.now.now)));
    }
