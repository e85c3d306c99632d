use Rattle.std.proofs.Common.{None, Err, ap, subst, sym, arith}
use Rattle.std.proofs.lemmas.Result.{err_from_is_err_and}
use Rattle.sqlite.specs.Effect.{Database}
use Rattle.sqlite.specs.Held.{state}
use Rattle.sqlite.specs.State.{HasCleanDisk}
use Rattle.account_asks.specs.declared.ask.Which.TheVariants.{Completed}
use Rattle.room_store.proofs.Paged.{statement_told}
use Rattle.room_store.specs.Questions.{GrantsAreReadable}
use Rattle.store_rounds.proofs.LookLemmas.{fault_of, look_passed, looked, looks_after, looks_as, passed_then}
use Rattle.room_store.proofs.page_questions.tell_statement_page.Goals as goal
use Rattle.store_events.specs.Reading.{JobsAreReadable}
use Rattle.rows_tables.specs.Accounts.{HoldsRoom}
use Rattle.rows_tables.specs.Keyed.{HasSchema}

pub returns-in_err-quota-clause-damaged : goal.returns-in_err-quota-clause-damaged
returns-in_err-quota-clause-damaged g c clean has is readable =
    let told = err_from_is_err_and c.from_residual.result c.from_residual.ensures.1 in
    c.in_err-quota.ensures.damaged clean has (ap (λ e. Err e) (fault_of c.from_residual.result told.0 _ _ told.1 told.2 is)) readable.quota

pub returns-in_err-grants-clause-damaged : goal.returns-in_err-grants-clause-damaged
returns-in_err-grants-clause-damaged g c clean has is readable =
    let old = c.args.connection.now in
    let one = c.read_quota.new.connection in
    let told = err_from_is_err_and c.from_residual-in_err-grants.result c.from_residual-in_err-grants.ensures.1 in
    let was : HasCleanDisk (state g.S.Store one) = omega (arith, c.in_err-grants.ensures.looks.connection.keeps.clean, clean) in
    let same = ((look_passed g.S.Store old one _ c.in_ok-quota.ensures.looks).same was has).now in
    c.in_err-grants.ensures.damaged clean (subst HasSchema (sym same) has) (ap (λ e. Err e) (fault_of c.from_residual-in_err-grants.result told.0 _ _ told.1 told.2 is))
    (subst (λ (db : Database). GrantsAreReadable c.args.account db) (sym same) readable.grants)
    (subst (λ (db : Database). JobsAreReadable c.args.account Completed None db) (sym same) readable.ended)

pub returns-in_err-grants-clause-looks : goal.returns-in_err-grants-clause-looks
returns-in_err-grants-clause-looks g c =
    let one = c.read_quota.new.connection in
    let two = c.read_movements.new.connection in
    let told = err_from_is_err_and c.from_residual-in_err-grants.result c.from_residual-in_err-grants.ensures.1 in
    looks_after g.S.Store c.args.connection.now one two c.from_residual-in_err-grants.result (look_passed g.S.Store _ _ _ c.in_ok-quota.ensures.looks)
    (looks_as g.S.Store one two c.from_residual-in_err-grants.result told.0 _ told.1 told.2 c.in_err-grants.ensures.looks)

pub returns-in_err-statement_page-clause-looks : goal.returns-in_err-statement_page-clause-looks
returns-in_err-statement_page-clause-looks g c =
    looked g.S.Store _ _ c.from_residual-in_err-statement_page.result
    (passed_then (state g.S.Store c.args.connection.now) (state g.S.Store c.read_quota.new.connection) (state g.S.Store c.read_movements.new.connection) (look_passed g.S.Store _ _ _ c.in_ok-quota.ensures.looks) (look_passed g.S.Store _ _ _ c.in_ok-grants.ensures.looks))

pub returns-clause-told : goal.returns-clause-told
returns-clause-told g c clean has room devices holds needs =
    let old = c.args.connection.now in
    let one = c.read_quota.new.connection in
    let was : HasCleanDisk (state g.S.Store one) = omega (arith, c.in_ok-grants.ensures.looks.connection.keeps.clean, clean) in
    let same = ((look_passed g.S.Store old one _ c.in_ok-quota.ensures.looks).same was has).now in
    statement_told c.args.account c.args.first c.args.last c.args.form c.args.drawn_up room _ _ _ _ _ _
    (c.in_ok-quota.ensures.told was has room holds)
    (c.in_ok-grants.ensures.told clean (subst HasSchema (sym same) has) room (subst (λ (db : Database). HoldsRoom db c.args.account room) (sym same) holds))
    c.in_ok-statement_page.ensures.bytes

pub returns-clause-looks : goal.returns-clause-looks
returns-clause-looks g c =
    looked g.S.Store _ _ _
    (passed_then (state g.S.Store c.args.connection.now) (state g.S.Store c.read_quota.new.connection) (state g.S.Store c.read_movements.new.connection) (look_passed g.S.Store _ _ _ c.in_ok-quota.ensures.looks) (look_passed g.S.Store _ _ _ c.in_ok-grants.ensures.looks))
