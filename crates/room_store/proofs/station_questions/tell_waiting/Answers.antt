use Rattle.std.proofs.Common.{None, Err, ap, subst, sym, ◌∙◌, arith}
use Rattle.std.proofs.lemmas.Result.{err_from_is_err_and}
use Rattle.sqlite.specs.Effect.{Database}
use Rattle.sqlite.specs.Held.{state}
use Rattle.sqlite.specs.State.{HasCleanDisk}
use Rattle.account_asks.specs.declared.ask.Which.TheVariants.{NotCompleted}
use Rattle.store_rounds.proofs.LookLemmas.{fault_of, looked, passed_then, read_passed}
use Rattle.store_events.proofs.Stationed.{known_row}
use Rattle.store_events.specs.Reading.{JobsAreReadable}
use Rattle.rows_tables.specs.Keyed.{HasSchema}
use Rattle.room_store.proofs.station_questions.tell_waiting.Goals as goal

pub returns-in-Err-clause-looks : goal.returns-in-Err-clause-looks
returns-in-Err-clause-looks g c = looked g.S.Store _ _ c.refusal_line.result (read_passed g.S.Store c.args.connection.now c.find_device.new.connection _ c.in_ok-find_device.ensures.reads)

pub returns-in_err-jobs-clause-damaged : goal.returns-in_err-jobs-clause-damaged
returns-in_err-jobs-clause-damaged g c clean has is readable =
    let old = c.args.connection.now in
    let mid = c.find_device.new.connection in
    let told = err_from_is_err_and c.from_residual-in_err-jobs.result c.from_residual-in_err-jobs.ensures.1 in
    let was : HasCleanDisk (state g.S.Store mid) = omega (arith, c.in_err-jobs.ensures.reads.keeps.clean, clean) in
    let same = ((read_passed g.S.Store old mid _ c.in_ok-find_device.ensures.reads).same was has).now in
    let known = known_row c.args.device _ _ _ (sym c.known_device.ensures ∙ c.in_default.is) (c.in_ok-find_device.ensures.found was has) in
    c.in_err-jobs.ensures.damaged clean (subst HasSchema (sym same) has) (ap (λ e. Err e) (fault_of c.from_residual-in_err-jobs.result told.0 _ _ told.1 told.2 is))
    (subst (λ (db : Database). JobsAreReadable c.args.account NotCompleted None db) (sym same) (readable.1 known))

pub returns-in_err-jobs_lines-clause-looks : goal.returns-in_err-jobs_lines-clause-looks
returns-in_err-jobs_lines-clause-looks g c =
    looked g.S.Store _ _ c.from_residual-in_err-jobs_lines.result
    (passed_then (state g.S.Store c.args.connection.now) (state g.S.Store c.find_device.new.connection) (state g.S.Store c.unfinished_jobs.new.connection) (read_passed g.S.Store _ _ _ c.in_ok-find_device.ensures.reads) (read_passed g.S.Store _ _ _ c.in_ok-jobs.ensures.reads))

pub returns-clause-looks : goal.returns-clause-looks
returns-clause-looks g c =
    looked g.S.Store _ _ _
    (passed_then (state g.S.Store c.args.connection.now) (state g.S.Store c.find_device.new.connection) (state g.S.Store c.unfinished_jobs.new.connection) (read_passed g.S.Store _ _ _ c.in_ok-find_device.ensures.reads) (read_passed g.S.Store _ _ _ c.in_ok-jobs.ensures.reads))
