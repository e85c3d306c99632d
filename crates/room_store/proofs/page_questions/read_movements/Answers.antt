use Rattle.std.proofs.Common.{None, Err, ap, subst, sym, arith}
use Rattle.std.proofs.lemmas.Result.{err_from_is_err_and}
use Rattle.sqlite.specs.Effect.{Database}
use Rattle.sqlite.specs.Held.{state}
use Rattle.sqlite.specs.State.{HasCleanDisk}
use Rattle.account_asks.specs.declared.ask.Which.TheVariants.{Completed}
use Rattle.store_rounds.proofs.LookLemmas.{fault_of, looked, looks_after, looks_as, looks_read, passed_then, read_passed}
use Rattle.room_store.proofs.page_questions.read_movements.Goals as goal
use Rattle.store_events.specs.Reading.{JobsAreReadable}
use Rattle.rows_tables.specs.Accounts.{HoldsRoom}
use Rattle.rows_tables.specs.Keyed.{HasSchema}

pub returns-in_err-grants-clause-damaged : goal.returns-in_err-grants-clause-damaged
returns-in_err-grants-clause-damaged g c clean has is grants ended =
    let told = err_from_is_err_and c.from_residual.result c.from_residual.ensures.1 in
    c.in_err-grants.ensures.damaged clean has (ap (λ e. Err e) (fault_of c.from_residual.result told.0 _ _ told.1 told.2 is)) grants

pub returns-in_err-ended-clause-damaged : goal.returns-in_err-ended-clause-damaged
returns-in_err-ended-clause-damaged g c clean has is grants ended =
    let old = c.args.connection.now in
    let mid = c.list_grants.new.connection in
    let told = err_from_is_err_and c.from_residual-in_err-ended.result c.from_residual-in_err-ended.ensures.1 in
    let was : HasCleanDisk (state g.S.Store mid) = omega (arith, c.in_err-ended.ensures.reads.keeps.clean, clean) in
    let same = ((read_passed g.S.Store old mid _ c.in_ok-grants.ensures.reads).same was has).now in
    c.in_err-ended.ensures.damaged clean (subst HasSchema (sym same) has) (ap (λ e. Err e) (fault_of c.from_residual-in_err-ended.result told.0 _ _ told.1 told.2 is))
    (subst (λ (db : Database). JobsAreReadable c.args.account Completed None db) (sym same) ended)

pub returns-in_err-ended-clause-looks : goal.returns-in_err-ended-clause-looks
returns-in_err-ended-clause-looks g c =
    let mid = c.list_grants.new.connection in
    let new = c.ended_jobs.new.connection in
    let told = err_from_is_err_and c.from_residual-in_err-ended.result c.from_residual-in_err-ended.ensures.1 in
    looks_after g.S.Store c.args.connection.now mid new c.from_residual-in_err-ended.result (read_passed g.S.Store _ _ _ c.in_ok-grants.ensures.reads)
    (looks_as g.S.Store mid new c.from_residual-in_err-ended.result told.0 _ told.1 told.2 (looks_read g.S.Store mid new _ c.in_err-ended.ensures.reads))

pub returns-clause-told : goal.returns-clause-told
returns-clause-told g c clean has room holds =
    let old = c.args.connection.now in
    let mid = c.list_grants.new.connection in
    let was : HasCleanDisk (state g.S.Store mid) = omega (arith, c.in_ok-ended.ensures.reads.keeps.clean, clean) in
    let same = ((read_passed g.S.Store old mid _ c.in_ok-grants.ensures.reads).same was has).now in
    (c.in_ok-grants.ensures.listed was has room holds, c.in_ok-ended.ensures.listed clean (subst HasSchema (sym same) has) room (subst (λ (db : Database). HoldsRoom db c.args.account room) (sym same) holds))

pub returns-clause-looks : goal.returns-clause-looks
returns-clause-looks g c =
    looked g.S.Store _ _ _
    (passed_then (state g.S.Store c.args.connection.now) (state g.S.Store c.list_grants.new.connection) (state g.S.Store c.ended_jobs.new.connection) (read_passed g.S.Store _ _ _ c.in_ok-grants.ensures.reads) (read_passed g.S.Store _ _ _ c.in_ok-ended.ensures.reads))
