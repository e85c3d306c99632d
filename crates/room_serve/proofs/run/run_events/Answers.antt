use Rattle.std.proofs.Common.{◌≡◌, ◌+◌, List, [], ◌∷◌, ◌++◌, ◌≤◌, length, map, take, IsTrue, sym, subst, ◌∙◌, ap, arith}
use Rattle.std.proofs.lemmas.List.{length-map, map-append, take_all, take_more}
use Rattle.std.proofs.lemmas.List.Elements.{All-get_or}
use Rattle.sqlite.specs.Held.{state}
use Rattle.sqlite.specs.State.{HasCleanDisk}
use Rattle.account_machine.specs.Events.{Timed, plain_event, plain_timed}
use Rattle.account_machine.specs.Fits.{fits}
use Rattle.store_events.specs.Applied.{Applies}
use Rattle.room_serve.proofs.FoundLives.{answered_is_found}
use Rattle.room_serve.proofs.LivesOn.{lives_go_on_in_runs}
use Rattle.room_serve.proofs.RunLemmas.{applied_more, one_more}
use Rattle.room_serve.specs.Crashes.{IsFound}
use Rattle.room_serve.specs.LivesInFiles.{IsLifeIn, exchanges_of}
use Rattle.room_serve.specs.Runs.{AreApplied, LeavesTheRest, RunsAlone, RunsDevices}
use Rattle.room_serve.proofs.run.run_events.Goals as goal

pub apply-answer-requires : goal.apply-answer-requires
apply-answer-requires g c =
    subst (λ e. IsTrue (fits (plain_event e.1))) (sym c.loop-now-item.is) (All-get_or (λ e. IsTrue (fits (plain_event e.1))) c.args.events.now c.loop-now.now-index c.loop-now-item.result c.loop-now-test.true c.requires.fit)

pub loop-now-preserved : goal.loop-now-preserved
loop-now-preserved g c =
    let item = c.loop-now-item.result in
    let e = plain_timed item in
    let old = state g.S.Store c.args.store.now in
    let mid = state g.S.Store c.loop-now.store in
    let new = state g.S.Store c.apply-answer.new.self in
    let applied : Applies e.0 e.1 mid new c.apply-answer.result = c.apply-answer.ensures.applies in
    let events = c.args.events.now in
    let front = take c.loop-now.now-index events in
    let next = one_more (map plain_timed front) c.loop-now.outcomes.items e old mid new c.apply-answer.result c.loop-now.invariant.run applied in
    let grown : take (c.loop-now.now-index + 1) events ≡ front ++ item ∷ [] = take_more events c.loop-now.now-index item c.loop-now-test.true ∙ ap (λ x. front ++ x ∷ []) (sym c.loop-now-item.is) in
    let mapped = ap (map plain_timed) grown ∙ map-append plain_timed front (item ∷ []) in
    record {
      run = rw (mapped, c.keep.ensures.kept, c.from.ensures) next;
      applied = rw (mapped, c.keep.ensures.kept, c.from.ensures) (applied_more g.S.Store (map plain_timed front) c.loop-now.outcomes.items e c.args.store.now c.loop-now.store c.apply-answer.new.self c.apply-answer.result c.loop-now.invariant.applied applied);
      fits = omega (arith, c.loop-now.invariant.fits, c.keep.ensures.capacity);
    }

pub returns-clause-applied : goal.returns-clause-applied
returns-clause-applied g c =
    let all = ap (map plain_timed) (take_all c.loop-now.now-index c.args.events.now c.loop-now-test.false) in
    subst (λ (run : List Timed). AreApplied g.S.Store run c.loop-now.outcomes.items c.args.store.now c.loop-now.store) all c.loop-now.invariant.applied

pub returns-clause-each : goal.returns-clause-each
returns-clause-each g c =
    let events = c.args.events.now in
    let whole : length events ≤ c.loop-now.now-index = omega arith in
    c.loop-now.invariant.run.shows.each ∙ length-map (take c.loop-now.now-index events) plain_timed ∙ ap length (take_all c.loop-now.now-index events whole)

pub returns-clause-alone : goal.returns-clause-alone
returns-clause-alone g c clean has =
    let old = state g.S.Store c.args.store.now in
    let new = state g.S.Store c.loop-now.store in
    let all = ap (map plain_timed) (take_all c.loop-now.now-index c.args.events.now c.loop-now-test.false) in
    subst (λ (run : List Timed). RunsAlone run c.loop-now.outcomes.items old.now new.is_open new.now) all (c.loop-now.invariant.run.shows.alone clean has)

pub returns-clause-devices : goal.returns-clause-devices
returns-clause-devices g c clean has =
    let old = state g.S.Store c.args.store.now in
    let new = state g.S.Store c.loop-now.store in
    let all = ap (map plain_timed) (take_all c.loop-now.now-index c.args.events.now c.loop-now-test.false) in
    subst (λ (run : List Timed). RunsDevices run c.loop-now.outcomes.items old.now new.is_open new.now) all (c.loop-now.invariant.run.shows.devices clean has)

pub returns-clause-rest : goal.returns-clause-rest
returns-clause-rest g c clean has shown =
    let old = state g.S.Store c.args.store.now in
    let new = state g.S.Store c.loop-now.store in
    let all = ap (map plain_timed) (take_all c.loop-now.now-index c.args.events.now c.loop-now-test.false) in
    subst (λ (run : List Timed). LeavesTheRest run c.loop-now.outcomes.items old.now new.is_open new.now) all (c.loop-now.invariant.run.shows.rest clean has shown)

pub returns-clause-lives : goal.returns-clause-lives
returns-clause-lives g c clean has name life lived =
    let events = c.args.events.now in
    let new = state g.S.Store c.loop-now.store in
    let shows = c.loop-now.invariant.run.shows in
    let all = ap (map plain_timed) (take_all c.loop-now.now-index events c.loop-now-test.false) in
    subst (λ (run : List Timed). IsLifeIn new.now new.is_open name (life ++ exchanges_of name run c.loop-now.outcomes.items)) all
    (lives_go_on_in_runs _ _ _ _ _ (shows.alone clean has) (shows.devices clean has) name life lived)

pub returns-clause-found : goal.returns-clause-found
returns-clause-found g c clean has shown name life lived found may =
    let store = g.S.Store in
    let events = c.args.events.now in
    let old = state store c.args.store.now in
    let new = state store c.loop-now.store in
    let run = c.loop-now.invariant.run in
    let old_clean : HasCleanDisk old = omega (arith, run.connection.clean, clean) in
    let on_disk = c.is_on_disk-on_disk.ensures.on_disk (c.is_on_disk-on_disk.ensures.always old_clean) in
    let all = ap (map plain_timed) (take_all c.loop-now.now-index events c.loop-now-test.false) in
    subst (λ (run : List Timed). IsFound name (life ++ exchanges_of name run c.loop-now.outcomes.items) found) all
    (answered_is_found store _ _ c.args.store.now c.loop-now.store on_disk c.loop-now.invariant.applied clean has shown name life lived found may)
