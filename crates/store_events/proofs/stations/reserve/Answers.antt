use Rattle.std.proofs.Common.{◌≡◌, Result, ap, to_z, of_z, w64, sym, subst, ◌∙◌, arith, rules}
use Rattle.sqlite.specs.State.{HasCleanDisk}
use Rattle.sqlite.specs.Held.{state}
use Rattle.account_machine.specs.Stations.{by_word, release_told}
use Rattle.account_machine.specs.Steps.{telling, with_moved}
use Rattle.account_rules.specs.StateLaws.{kept_to_quota}
use Rattle.account_rules.specs.declared.job.Standing.{Standing}
use Rattle.account_rules.specs.declared.refusal.Refusal.{Refusal}
use Rattle.account_state.specs.Sums.{left_in}
use Rattle.account_replies.specs.declared.station_line.Success.TheVariants.{Released}
use Rattle.store_rounds.specs.ProofKnown.{HasJobRow}
use Rattle.store_events.proofs.Found.{job_in_room}
use Rattle.store_rounds.proofs.LookLemmas.{goes_after, look_passed}
use Rattle.store_events.proofs.ServingLemmas.{serves_after_so}
use Rattle.store_events.proofs.Stationed.{released_so}
use Rattle.store_events.proofs.Staying.{stays_open, unasked}
use Rattle.store_events.proofs.StepLemmas.{refuses_as, steps_as}
use Rattle.store_events.proofs.stations.reserve.Goals as goal

pub returns-clause-connection : goal.returns-clause-connection
returns-clause-connection g c = goes_after g.S.Store c.args.connection.now c.left_now.new.connection c.tell.new.connection c.tell.result (look_passed g.S.Store _ _ _ c.in_ok-left.ensures.looks) c.tell.ensures.connection

pub returns-clause-served : goal.returns-clause-served
returns-clause-served g c known =
    let old = c.args.connection.now in
    let mid = c.left_now.new.connection in
    let new = c.tell.new.connection in
    let name = c.args.account in
    let job = c.args.job.now in
    let passed = look_passed g.S.Store old mid _ c.in_ok-left.ensures.looks in
    steps_as g.S.Store old new name (λ room devices. telling (with_moved room job.job c.in-Ok.released) (Released c.in-Ok.released.reserved (to_z w64 (of_z w64 c.left_after.result)))) (λ room devices. release_told room c.args.now job.job (by_word (kept_to_quota job.standing.state (left_in room c.args.now) c.args.asked))) c.tell.result
    (λ clean has of held.
    let was : HasCleanDisk (state g.S.Store mid) = omega (arith, c.tell.ensures.connection.keeps.clean, clean) in
    let same : to_z w64 (of_z w64 c.in_ok-left.left) ≡ c.in_ok-left.left = search rules in
    let same_after : to_z w64 (of_z w64 c.left_after.result) ≡ c.left_after.result = search rules in
    let there = job_in_room _ name job (known clean has) c.requires.before of.0 held.room in
    released_so of.0 c.args.now job there c.in-Ok.released _ _ (same ∙ c.in_ok-left.ensures.left was has of.0 held.room) (same_after ∙ c.left_after.ensures) c.args.asked c.in-Ok.is c.in_default.field-0 (sym c.kept_to.ensures ∙ c.in_default.is))
    (serves_after_so _ _ _ _ _ g.S.Store old mid passed new c.tell.result (HasJobRow name job) (λ clean has readable. tt) c.tell.ensures.connection (λ clean new_clean has. subst (HasJobRow name job) (sym (passed.same clean has).now) (known new_clean has)) c.tell.ensures.served)

pub returns-in-Err-kept_to-clause-served : goal.returns-in-Err-kept_to-clause-served
returns-in-Err-kept_to-clause-served g c known =
    let old = c.args.connection.now in
    let mid = c.left_now.new.connection in
    let job = c.args.job.now in
    refuses_as g.S.Store old mid c.args.account (look_passed g.S.Store old mid _ c.in_ok-left.ensures.looks) (λ room devices. release_told room c.args.now job.job (by_word (kept_to_quota job.standing.state (left_in room c.args.now) c.args.asked))) c.in-Err-kept_to.refusal.word c.refused_by-in-Err-kept_to.result c.refused_by-in-Err-kept_to.ensures.answered c.refused_by-in-Err-kept_to.ensures.memory
    (λ clean has of held.
    let same : to_z w64 (of_z w64 c.in_ok-left.left) ≡ c.in_ok-left.left = search rules in
    let left = same ∙ c.in_ok-left.ensures.left clean has of.0 held.room in
    ap (λ (d : Result Standing Refusal). release_told of.0 c.args.now job.job (by_word d))
    (ap (λ l. kept_to_quota job.standing.state l c.args.asked) (sym left) ∙ ap (kept_to_quota job.standing.state (to_z w64 (of_z w64 c.in_ok-left.left))) c.in-Ok.is ∙ sym c.kept_to.ensures ∙ c.in-Err-kept_to.is))

pub returns-in-Err-kept_to-clause-connection : goal.returns-in-Err-kept_to-clause-connection
returns-in-Err-kept_to-clause-connection g c = stays_open g.S.Store c.args.connection.now c.left_now.new.connection c.refused_by-in-Err-kept_to.result (look_passed g.S.Store _ _ _ c.in_ok-left.ensures.looks)

pub returns-in-Err-clause-served : goal.returns-in-Err-clause-served
returns-in-Err-clause-served g c known =
    let old = c.args.connection.now in
    let job = c.args.job.now in
    refuses_as g.S.Store old old c.args.account (unasked (state g.S.Store old)) (λ room devices. release_told room c.args.now job.job (by_word (kept_to_quota job.standing.state (left_in room c.args.now) c.args.asked))) c.in-Err.refusal.word c.refused_by.result c.refused_by.ensures.answered c.refused_by.ensures.memory
    (λ clean has of held. ap (λ (asked : Result Standing Refusal). release_told of.0 c.args.now job.job (by_word (kept_to_quota job.standing.state (left_in of.0 c.args.now) asked))) c.in-Err.is)
