use Rattle.std.proofs.Common.{None, Some, Err, ap, subst, sym, arith}
use Rattle.std.proofs.lemmas.Result.{err_from_is_err_and}
use Rattle.sqlite.specs.Effect.{Database}
use Rattle.sqlite.specs.Held.{state}
use Rattle.sqlite.specs.State.{HasCleanDisk}
use Rattle.account_asks.specs.declared.ask.Which.TheVariants.{NotCompleted, Completed}
use Rattle.account_questions.specs.Pages.{most_shown}
use Rattle.room_store.proofs.Paged.{desk_told}
use Rattle.store_rounds.proofs.LookLemmas.{fault_of, look_passed, looked, looks_after, looks_as, looks_read, passed_then, read_passed}
use Rattle.room_store.proofs.page_questions.tell_desk_page.Goals as goal
use Rattle.store_events.specs.Reading.{JobsAreReadable}
use Rattle.rows_tables.specs.Accounts.{HoldsRoom}
use Rattle.room_store.specs.Questions.{GrantsAreReadable}
use Rattle.rows_tables.specs.Keyed.{HasSchema}

-- ---- a read that fails

pub returns-in_err-quota-clause-damaged : goal.returns-in_err-quota-clause-damaged
returns-in_err-quota-clause-damaged g c clean has is readable =
    let told = err_from_is_err_and c.from_residual.result c.from_residual.ensures.1 in
    c.in_err-quota.ensures.damaged clean has (ap (λ e. Err e) (fault_of c.from_residual.result told.0 _ _ told.1 told.2 is)) readable.quota

pub returns-in_err-waiting-clause-damaged : goal.returns-in_err-waiting-clause-damaged
returns-in_err-waiting-clause-damaged g c clean has is readable =
    let old = c.args.connection.now in
    let one = c.read_quota.new.connection in
    let told = err_from_is_err_and c.from_residual-in_err-waiting.result c.from_residual-in_err-waiting.ensures.1 in
    let was : HasCleanDisk (state g.S.Store one) = omega (arith, c.in_err-waiting.ensures.looks.connection.keeps.clean, clean) in
    let same = ((look_passed g.S.Store old one _ c.in_ok-quota.ensures.looks).same was has).now in
    c.in_err-waiting.ensures.damaged clean (subst HasSchema (sym same) has) (ap (λ e. Err e) (fault_of c.from_residual-in_err-waiting.result told.0 _ _ told.1 told.2 is))
    (subst (λ (db : Database). JobsAreReadable c.args.account NotCompleted None db) (sym same) readable.waiting)
    (subst (λ (db : Database). JobsAreReadable c.args.account Completed (Some most_shown) db) (sym same) readable.ended)

pub returns-in_err-waiting-clause-looks : goal.returns-in_err-waiting-clause-looks
returns-in_err-waiting-clause-looks g c =
    let one = c.read_quota.new.connection in
    let two = c.read_jobs.new.connection in
    let told = err_from_is_err_and c.from_residual-in_err-waiting.result c.from_residual-in_err-waiting.ensures.1 in
    looks_after g.S.Store c.args.connection.now one two c.from_residual-in_err-waiting.result (look_passed g.S.Store _ _ _ c.in_ok-quota.ensures.looks)
    (looks_as g.S.Store one two c.from_residual-in_err-waiting.result told.0 _ told.1 told.2 c.in_err-waiting.ensures.looks)

pub returns-in_err-grants-clause-damaged : goal.returns-in_err-grants-clause-damaged
returns-in_err-grants-clause-damaged g c clean has is readable =
    let old = c.args.connection.now in
    let one = c.read_quota.new.connection in
    let two = c.read_jobs.new.connection in
    let told = err_from_is_err_and c.from_residual-in_err-grants.result c.from_residual-in_err-grants.ensures.1 in
    let was : HasCleanDisk (state g.S.Store two) = omega (arith, c.in_err-grants.ensures.reads.keeps.clean, clean) in
    let passed = passed_then (state g.S.Store old) (state g.S.Store one) (state g.S.Store two) (look_passed g.S.Store old one _ c.in_ok-quota.ensures.looks) (look_passed g.S.Store one two _ c.in_ok-waiting.ensures.looks) in
    let same = (passed.same was has).now in
    c.in_err-grants.ensures.damaged clean (subst HasSchema (sym same) has) (ap (λ e. Err e) (fault_of c.from_residual-in_err-grants.result told.0 _ _ told.1 told.2 is)) (subst (λ (db : Database). GrantsAreReadable c.args.account db) (sym same) readable.grants)

pub returns-in_err-grants-clause-looks : goal.returns-in_err-grants-clause-looks
returns-in_err-grants-clause-looks g c =
    let old = c.args.connection.now in
    let one = c.read_quota.new.connection in
    let two = c.read_jobs.new.connection in
    let last = c.list_grants.new.connection in
    let told = err_from_is_err_and c.from_residual-in_err-grants.result c.from_residual-in_err-grants.ensures.1 in
    looks_after g.S.Store old two last c.from_residual-in_err-grants.result
    (passed_then (state g.S.Store old) (state g.S.Store one) (state g.S.Store two) (look_passed g.S.Store _ _ _ c.in_ok-quota.ensures.looks) (look_passed g.S.Store _ _ _ c.in_ok-waiting.ensures.looks))
    (looks_as g.S.Store two last c.from_residual-in_err-grants.result told.0 _ told.1 told.2 (looks_read g.S.Store two last _ c.in_err-grants.ensures.reads))

pub returns-in_err-desk_page-clause-looks : goal.returns-in_err-desk_page-clause-looks
returns-in_err-desk_page-clause-looks g c =
    looked g.S.Store _ _ c.from_residual-in_err-desk_page.result
    (passed_then (state g.S.Store c.args.connection.now) (state g.S.Store c.read_jobs.new.connection) (state g.S.Store c.list_grants.new.connection)
    (passed_then (state g.S.Store c.args.connection.now) (state g.S.Store c.read_quota.new.connection) (state g.S.Store c.read_jobs.new.connection) (look_passed g.S.Store _ _ _ c.in_ok-quota.ensures.looks) (look_passed g.S.Store _ _ _ c.in_ok-waiting.ensures.looks))
    (read_passed g.S.Store _ _ _ c.in_ok-grants.ensures.reads))

-- ---- the page

pub returns-clause-told : goal.returns-clause-told
returns-clause-told g c clean has room devices holds held =
    let old = c.args.connection.now in
    let one = c.read_quota.new.connection in
    let two = c.read_jobs.new.connection in
    let was_two : HasCleanDisk (state g.S.Store two) = omega (arith, c.in_ok-grants.ensures.reads.keeps.clean, clean) in
    let was_one : HasCleanDisk (state g.S.Store one) = omega (arith, c.in_ok-waiting.ensures.looks.connection.keeps.clean, was_two) in
    let first = look_passed g.S.Store old one _ c.in_ok-quota.ensures.looks in
    let same_one = (first.same was_one has).now in
    let second = passed_then (state g.S.Store old) (state g.S.Store one) (state g.S.Store two) first (look_passed g.S.Store one two _ c.in_ok-waiting.ensures.looks) in
    let same_two = (second.same was_two has).now in
    desk_told c.args.account c.args.month room _ _ _ _ _ _ _
    (c.in_ok-quota.ensures.told was_one has room holds)
    (c.in_ok-waiting.ensures.told was_two (subst HasSchema (sym same_one) has) room (subst (λ (db : Database). HoldsRoom db c.args.account room) (sym same_one) holds))
    (c.in_ok-grants.ensures.listed clean (subst HasSchema (sym same_two) has) room (subst (λ (db : Database). HoldsRoom db c.args.account room) (sym same_two) holds))
    c.in_ok-desk_page.ensures.bytes

pub returns-clause-looks : goal.returns-clause-looks
returns-clause-looks g c =
    looked g.S.Store _ _ _
    (passed_then (state g.S.Store c.args.connection.now) (state g.S.Store c.read_jobs.new.connection) (state g.S.Store c.list_grants.new.connection)
    (passed_then (state g.S.Store c.args.connection.now) (state g.S.Store c.read_quota.new.connection) (state g.S.Store c.read_jobs.new.connection) (look_passed g.S.Store _ _ _ c.in_ok-quota.ensures.looks) (look_passed g.S.Store _ _ _ c.in_ok-waiting.ensures.looks))
    (read_passed g.S.Store _ _ _ c.in_ok-grants.ensures.reads))
