use Rattle.std.proofs.Common.{◌≡◌, ℕ, Option, Some, Err, IfOk, IfSome, Result, sym, ap, subst, ◌∙◌, arith, None}
use Rattle.std.proofs.lemmas.Result.{err_from_is_err_and}
use Rattle.std.specs.FinMap.{get}
use Rattle.sqlite.specs.Effect.{Database}
use Rattle.sqlite.specs.State.{HasCleanDisk}
use Rattle.sqlite.specs.Held.{state}
use Rattle.account_machine.specs.Stations.{by_word, station, station_release, release_told}
use Rattle.account_rules.specs.declared.job.Job.{Job}
use Rattle.account_rules.specs.StateLaws.{kept_to_quota}
use Rattle.account_rules.specs.declared.refusal.Word.{Word}
use Rattle.account_state.specs.Sums.{left_in}
use Rattle.rows_statements.specs.Queues.{IsNumbered}
use Rattle.rows_tables.specs.Accounts.{HoldsRoom}
use Rattle.rows_tables.specs.Keyed.{HasSchema}
use Rattle.store_rounds.specs.ProofKnown.{HasJobRow}
use Rattle.store_events.specs.Reading.{IsReady}
use Rattle.store_rounds.specs.Reading.{JobIsReadable}
use Rattle.store_events.proofs.Found.{act_of, there_still}
use Rattle.store_events.proofs.ServingLemmas.{look_failed_as, serves_after, serves_after_so}
use Rattle.store_rounds.proofs.LookLemmas.{look_passed, passed_then}
use Rattle.store_events.proofs.Stationed.{release_found, release_refused, station_reads, release_missing}
use Rattle.store_events.proofs.StepLemmas.{refuses_as, steps_as}
use Rattle.account_rules.specs.declared.refusal.Word.TheVariants.{NoJob}
use Rattle.store_events.proofs.stations.release_at.Goals as goal

pub returns-in-Err : goal.returns-in-Err
returns-in-Err g c =
    record {
      served = refuses_as g.S.Store c.args.connection.now c.ready_rate.new.connection c.args.account (look_passed g.S.Store c.args.connection.now c.ready_rate.new.connection _ c.in_ok-rate.ensures.looks) (λ room devices. release_told room c.args.at.now.now c.args.number (station_release room (station devices c.args.at.now.device c.args.at.now.now) c.args.number c.args.password.now c.args.impressions)) c.in-Err.word c.refused_by.result c.refused_by.ensures.answered c.refused_by.ensures.memory
          (λ clean has of held. ap (release_told of.0 c.args.at.now.now c.args.number) (release_refused of.0 (station of.1 c.args.at.now.device c.args.at.now.now) c.args.number c.args.password.now c.args.impressions c.in-Err.word (sym (c.in_ok-rate.ensures.ready clean has of.1 held.devices) ∙ c.in-Err.is)));
    }

pub returns : goal.returns
returns g c =
    let old = c.args.connection.now in
    let mid = c.ready_rate.new.connection in
    let last = c.look_up.new.connection in
    let new = c.reserve.new.connection in
    let name = c.args.account in
    let job = c.in-Some.job in
    let looked = c.in_ok-job.ensures in
    let first = look_passed g.S.Store c.args.connection.now c.ready_rate.new.connection _ c.in_ok-rate.ensures.looks in
    let second = look_passed g.S.Store mid last _ looked.looks in
    let passed = passed_then (state g.S.Store old) (state g.S.Store mid) (state g.S.Store last) first second in
    let numbered = subst (λ (o : Option Job). IfSome o (λ job. (job.job ≡ c.args.number) × IsNumbered job)) c.in-Some.is looked.in_range in
    record {
      served = steps_as g.S.Store old new name (λ room devices. release_told room c.args.at.now.now job.job (by_word (kept_to_quota job.standing.state (left_in room c.args.at.now.now) c.released_at-asked.result))) (λ room devices. release_told room c.args.at.now.now c.args.number (station_release room (station devices c.args.at.now.device c.args.at.now.now) c.args.number c.args.password.now c.args.impressions)) c.reserve.result
          (λ clean has of held.
          let last_clean : HasCleanDisk (state g.S.Store last) = omega (arith, c.reserve.ensures.connection.keeps.clean, clean) in
          let mid_clean : HasCleanDisk (state g.S.Store mid) = omega (arith, looked.looks.connection.keeps.clean, last_clean) in
          let same = (first.same mid_clean has).now in
          let there : get of.0.jobs c.args.number ≡ Some job = sym (looked.found last_clean (subst HasSchema (sym same) has) of.0 (subst (λ (db : Database). HoldsRoom db name of.0) (sym same) held.room)) ∙ c.in-Some.is in
          ap (λ (n : ℕ). release_told of.0 c.args.at.now.now n (by_word (kept_to_quota job.standing.state (left_in of.0 c.args.at.now.now) c.released_at-asked.result))) numbered.0
          ∙ ap (release_told of.0 c.args.at.now.now c.args.number) (release_found of.0 (station of.1 c.args.at.now.device c.args.at.now.now) c.args.number c.args.password.now c.args.impressions c.in-Ok.rate job (sym (c.in_ok-rate.ensures.ready mid_clean has of.1 held.devices) ∙ c.in-Ok.is) there c.released_at-asked.result c.released_at-asked.ensures.moved))
          (serves_after_so _ _ _ _ _ g.S.Store old last passed new c.reserve.result (HasJobRow name job)
          (λ clean has readable.
          let last_clean : HasCleanDisk (state g.S.Store last) = omega (arith, c.reserve.ensures.connection.keeps.clean, clean) in
          let mid_clean : HasCleanDisk (state g.S.Store mid) = omega (arith, looked.looks.connection.keeps.clean, last_clean) in
          let same = (first.same mid_clean has).now in
          let there = subst (λ (o : Option Job). IfSome o (λ job. HasJobRow name job (state g.S.Store mid).now)) c.in-Some.is (looked.is_there last_clean (subst HasSchema (sym same) has)) in
          let ready = subst (λ (r : Result ℕ Word). IfOk r (λ rate. IsReady c.args.at.now.device rate (state g.S.Store old).now)) c.in-Ok.is (c.in_ok-rate.ensures.station mid_clean has) in
          station_reads job.standing job.password c.args.at.now.device c.args.password.now c.args.impressions c.in-Ok.rate c.released_at-asked.result c.released_at-asked.ensures.moved
          (act_of name c.args.number _ (state g.S.Store old).now (readable.1 c.in-Ok.rate ready) job numbered.0 numbered.1 (subst (HasJobRow name job) same there)))
          c.reserve.ensures.connection
          (λ clean _ has.
          let mid_clean : HasCleanDisk (state g.S.Store mid) = omega (arith, looked.looks.connection.keeps.clean, clean) in
          let has_mid = subst HasSchema (sym (first.same mid_clean has).now) has in
          there_still name job (state g.S.Store mid).now (state g.S.Store last).now (second.same clean has_mid).now
          (subst (λ (o : Option Job). IfSome o (λ job. HasJobRow name job (state g.S.Store mid).now)) c.in-Some.is (looked.is_there clean has_mid)))
          c.reserve.ensures.served);
    }

pub returns-in_err-job : goal.returns-in_err-job
returns-in_err-job g c =
    let old = c.args.connection.now in
    let mid = c.ready_rate.new.connection in
    let last = c.look_up.new.connection in
    let looked = c.in_err-job.ensures in
    let first = look_passed g.S.Store old mid _ c.in_ok-rate.ensures.looks in
    let told = err_from_is_err_and c.from_residual-in_err-job.result c.from_residual-in_err-job.ensures.1 in
    record {
      served = serves_after _ _ _ _ _ g.S.Store old mid first {Rest = JobIsReadable c.args.account c.args.number} last c.from_residual-in_err-job.result
          (λ clean has readable.
          let mid_clean : HasCleanDisk (state g.S.Store mid) = omega (arith, looked.looks.connection.keeps.clean, clean) in
          let ready = subst (λ (r : Result ℕ Word). IfOk r (λ rate. IsReady c.args.at.now.device rate (state g.S.Store old).now)) c.in-Ok.is (c.in_ok-rate.ensures.station mid_clean has) in
          (readable.1 c.in-Ok.rate ready).job)
          (look_failed_as _ _ _ _ _ g.S.Store mid last c.from_residual-in_err-job.result told.0 _ told.1 told.2 looked.looks (λ clean has is readable. looked.damaged clean has (ap (λ e. Err e) is) readable));
    }

pub returns-in_default : goal.returns-in_default
returns-in_default g c =
    let old = c.args.connection.now in
    let mid = c.ready_rate.new.connection in
    let last = c.look_up.new.connection in
    let name = c.args.account in
    let looked = c.in_ok-job.ensures in
    let first = look_passed g.S.Store old mid _ c.in_ok-rate.ensures.looks in
    let second = look_passed g.S.Store mid last _ looked.looks in
    let passed = passed_then (state g.S.Store old) (state g.S.Store mid) (state g.S.Store last) first second in
    record {
      served = refuses_as g.S.Store old last name passed (λ room devices. release_told room c.args.at.now.now c.args.number (station_release room (station devices c.args.at.now.device c.args.at.now.now) c.args.number c.args.password.now c.args.impressions)) NoJob c.refused_by-in_default.result c.refused_by-in_default.ensures.answered c.refused_by-in_default.ensures.memory
          (λ clean has of held.
          let mid_clean : HasCleanDisk (state g.S.Store mid) = omega (arith, looked.looks.connection.keeps.clean, clean) in
          let same = (first.same mid_clean has).now in
          let none : get of.0.jobs c.args.number ≡ None = sym (looked.found clean (subst HasSchema (sym same) has) of.0 (subst (λ (db : Database). HoldsRoom db name of.0) (sym same) held.room)) ∙ c.in_default.is in
          ap (release_told of.0 c.args.at.now.now c.args.number) (release_missing of.0 (station of.1 c.args.at.now.device c.args.at.now.now) c.args.number c.args.password.now c.args.impressions c.in-Ok.rate (sym (c.in_ok-rate.ensures.ready mid_clean has of.1 held.devices) ∙ c.in-Ok.is) none));
    }
