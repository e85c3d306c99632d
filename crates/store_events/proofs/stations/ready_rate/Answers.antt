use Rattle.std.proofs.Common.{Err, Some, ◌∙◌, ap, sym, subst, arith}
use Rattle.std.proofs.lemmas.Result.{err_from_is_err_and}
use Rattle.sqlite.specs.Effect.{Database}
use Rattle.sqlite.specs.State.{HasCleanDisk}
use Rattle.sqlite.specs.Held.{state}
use Rattle.account_rules.specs.Limits.{IsRate}
use Rattle.rows_statements.specs.SoundRows.{IsRowOf}
use Rattle.rows_tables.specs.Cells.{units_cells}
use Rattle.rows_tables.specs.Devices.{rate_at}
use Rattle.rows_tables.specs.Keyed.{HasSchema}
use Rattle.store_rounds.proofs.LookLemmas.{fault_of, looked, looks_after, looks_as, looks_read, passed_then, read_passed}
use Rattle.store_events.proofs.Stationed.{on_row}
use Rattle.store_events.proofs.stations.ready_rate.Goals as goal

pub returns-in_err-find_device-clause-damaged : goal.returns-in_err-find_device-clause-damaged
returns-in_err-find_device-clause-damaged g c clean has is readable =
    let told = err_from_is_err_and c.from_residual.result c.from_residual.ensures.1 in
    c.in_err-find_device.ensures.damaged clean has (ap (λ e. Err e) (fault_of c.from_residual.result told.0 _ _ told.1 told.2 is)) readable.device

pub returns-in_err-rate-clause-damaged : goal.returns-in_err-rate-clause-damaged
returns-in_err-rate-clause-damaged g c clean has is readable =
    let old = c.args.connection.now in
    let mid = c.find_device.new.connection in
    let told = err_from_is_err_and c.from_residual-in_err-rate.result c.from_residual-in_err-rate.ensures.1 in
    let was : HasCleanDisk (state g.S.Store mid) = omega (arith, c.in_err-rate.ensures.reads.keeps.clean, clean) in
    let same = ((read_passed g.S.Store old mid _ c.in_ok-find_device.ensures.reads).same was has).now in
    let has_mid = subst HasSchema (sym same) has in
    let one = readable.rate (on_row c.args.device _ c.in-Ok.on _ (c.in_ok-find_device.ensures.found was has) (sym c.known_device.ensures ∙ c.in-Ok.is) (sym c.check_on.ensures ∙ c.in_default.is)) in
    c.in_err-rate.ensures.damaged clean has_mid (ap (λ e. Err e) (fault_of c.from_residual-in_err-rate.result told.0 _ _ told.1 told.2 is))
    (subst (λ (db : Database). IsRowOf (units_cells c.args.device) IsRate (rate_at db c.args.device)) (sym same) (Some one.0, one.1, one.2))

pub returns-in-Err-clause-looks : goal.returns-in-Err-clause-looks
returns-in-Err-clause-looks g c = looked g.S.Store _ _ _ (read_passed g.S.Store c.args.connection.now c.find_device.new.connection _ c.in_ok-find_device.ensures.reads)

pub returns-in-Err-check_on-clause-looks : goal.returns-in-Err-check_on-clause-looks
returns-in-Err-check_on-clause-looks g c = looked g.S.Store _ _ _ (read_passed g.S.Store c.args.connection.now c.find_device.new.connection _ c.in_ok-find_device.ensures.reads)

pub returns-in_err-rate-clause-looks : goal.returns-in_err-rate-clause-looks
returns-in_err-rate-clause-looks g c =
    let mid = c.find_device.new.connection in
    let new = c.find_rate.new.connection in
    let told = err_from_is_err_and c.from_residual-in_err-rate.result c.from_residual-in_err-rate.ensures.1 in
    looks_after g.S.Store c.args.connection.now mid new c.from_residual-in_err-rate.result (read_passed g.S.Store _ _ _ c.in_ok-find_device.ensures.reads)
    (looks_as g.S.Store mid new c.from_residual-in_err-rate.result told.0 _ told.1 told.2 (looks_read g.S.Store mid new _ c.in_err-rate.ensures.reads))

pub returns-in-Some-clause-looks : goal.returns-in-Some-clause-looks
returns-in-Some-clause-looks g c =
    looked g.S.Store _ _ _
    (passed_then (state g.S.Store c.args.connection.now) (state g.S.Store c.find_device.new.connection) (state g.S.Store c.find_rate.new.connection) (read_passed g.S.Store _ _ _ c.in_ok-find_device.ensures.reads) (read_passed g.S.Store _ _ _ c.in_ok-rate.ensures.reads))

pub returns-in-None-clause-looks : goal.returns-in-None-clause-looks
returns-in-None-clause-looks g c =
    looked g.S.Store _ _ _
    (passed_then (state g.S.Store c.args.connection.now) (state g.S.Store c.find_device.new.connection) (state g.S.Store c.find_rate.new.connection) (read_passed g.S.Store _ _ _ c.in_ok-find_device.ensures.reads) (read_passed g.S.Store _ _ _ c.in_ok-rate.ensures.reads))
