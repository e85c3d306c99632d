use Rattle.std.proofs.Common.{◌≡◌, Option, Some, IfSome, Result, sym, ap, subst, ◌∙◌, arith}
use Rattle.std.specs.FinMap.{get}
use Rattle.sqlite.specs.State.{HasCleanDisk}
use Rattle.sqlite.specs.Held.{state}
use Rattle.account_asks.specs.Asks.{plain_ask}
use Rattle.account_machine.specs.JobRequests.{acted, hold_of}
use Rattle.account_rules.specs.Devices.{Devices}
use Rattle.account_rules.specs.declared.job.Job.{Job}
use Rattle.account_rules.specs.declared.job.Standing.{Standing}
use Rattle.account_rules.specs.declared.refusal.Refusal.{Refusal}
use Rattle.account_state.specs.Rooms.{RoomValue}
use Rattle.rows_tables.specs.Accounts.{HoldsRoom}
use Rattle.store_events.specs.Answers.{of_response}
use Rattle.store_rounds.specs.ProofKnown.{HasJobRow}
use Rattle.store_events.proofs.Found.{hold_of_found, there_still, no_act_is_done}
use Rattle.store_rounds.proofs.LookLemmas.{look_passed}
use Rattle.store_events.proofs.ServingLemmas.{serves_after_so, serves_as}
use Rattle.account_rules.specs.Acts.{HoldJob}
use Rattle.store_events.proofs.StepLemmas.{refuses_ask_as}
use Rattle.store_events.proofs.job_requests.hold.Goals as goal

pub returns : goal.returns
returns g c =
    let old = c.args.connection.now in
    let mid = c.look_up.new.connection in
    let new = c.act.new.connection in
    let ask = plain_ask c.args.request.now.ask in
    let name = c.args.request.now.account in
    let looked = c.in_ok-job.ensures in
    let passed = look_passed g.S.Store old mid _ looked.looks in
    let decided = c.hold-decided.result in
    record {
      served = serves_as (λ (of : RoomValue × Devices). of_response (acted of.0 ask decided)) _ (λ (of : RoomValue × Devices) db. HoldsRoom db name (acted of.0 ask decided).room) _ g.S.Store old new c.act.result
          (λ clean has of held.
          let was_clean : HasCleanDisk (state g.S.Store mid) = omega (arith, c.act.ensures.connection.keeps.clean, clean) in
          let there : get of.0.jobs ask.job ≡ Some c.in-Some.job = sym (looked.found was_clean has of.0 held.room) ∙ c.in-Some.is in
          let same = hold_of_found of.0 ask c.in-Some.job there decided c.hold-decided.ensures.moved in
          (of, held, ap (λ (d : Result Standing Refusal). of_response (acted of.0 ask d)) same, λ after then. subst (λ (d : Result Standing Refusal). HoldsRoom after name (acted of.0 ask d).room) same then))
          (serves_after_so _ _ _ _ _ g.S.Store old mid passed new c.act.result (HasJobRow name c.in-Some.job) (λ clean has readable. tt) c.act.ensures.connection
          (λ clean _ has. there_still name c.in-Some.job (state g.S.Store old).now (state g.S.Store mid).now (passed.same clean has).now
          (subst (λ (o : Option Job). IfSome o (λ job. HasJobRow name job (state g.S.Store old).now)) c.in-Some.is (looked.is_there clean has)))
          c.act.ensures.served);
    }

pub returns-in_default : goal.returns-in_default
returns-in_default g c =
    let ask = plain_ask c.args.request.now.ask in
    let looked = c.in_ok-job.ensures in
    record {
      served = refuses_ask_as g.S.Store c.args.connection.now c.look_up.new.connection c.args.request.now.account (look_passed g.S.Store _ _ _ looked.looks) (λ room devices. acted room ask (hold_of room ask))
          ask c.no_job.result c.request_refused.result c.request_refused.ensures.answered c.request_refused.ensures.memory
          (λ clean has of held. no_act_is_done of.0 ask c.no_job.result c.no_job.ensures (sym (looked.found clean has of.0 held.room) ∙ c.in_default.is) (λ _. HoldJob));
    }
