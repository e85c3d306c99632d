use Rattle.std.proofs.Common.{◌≡◌, Result, Err, OnOk, false, ap, subst}
use Rattle.std.proofs.lemmas.Result.{err_from_is_err_and}
use Rattle.sqlite.specs.Held.{state}
use Rattle.account_rules.specs.JobStates.{is_released}
use Rattle.account_rules.specs.declared.job.Standing.{Standing}
use Rattle.account_rules.specs.declared.refusal.Refusal.{Refusal}
use Rattle.store_rounds.proofs.LookLemmas.{fault_of}
use Rattle.store_events.proofs.Stationed.{within_same}
use Rattle.store_events.specs.Reading.{QuotaIsReadable}
use Rattle.store_events.proofs.quota.keep_to_quota.Goals as goal

pub returns-in_err-left-clause-damaged : goal.returns-in_err-left-clause-damaged
returns-in_err-left-clause-damaged g c clean has is readable =
    let told = err_from_is_err_and c.from_residual.result c.from_residual.ensures.1 in
    let unreleased : is_released c.args.before ≡ false = cc in
    let wanted = subst (λ (d : Result Standing Refusal). OnOk d (is_released c.args.before ≡ false → QuotaIsReadable c.args.account c.args.now (state g.S.Store c.args.connection.now).now)) c.in-Ok.is readable in
    c.in_err-left.ensures.damaged clean has (ap (λ e. Err e) (fault_of c.from_residual.result told.0 _ _ told.1 told.2 is)) (wanted unreleased)

pub returns-clause-same : goal.returns-clause-same
returns-clause-same g c = within_same c.args.asked c.in-Ok.released _ c.within_quota.result c.within_quota.ensures c.in-Ok.is
