use Rattle.std.proofs.Common.{◌≡◌, Err, pos, ap, sym, subst, ◌∙◌, arith, rules}
use Rattle.std.proofs.lemmas.Result.{err_from_is_err_and}
use Rattle.sqlite.specs.Effect.{Database}
use Rattle.sqlite.specs.State.{HasCleanDisk}
use Rattle.sqlite.specs.Held.{state}
use Rattle.account_rules.specs.Months.{month_at}
use Rattle.account_rules.specs.Quota.{left_of}
use Rattle.account_state.specs.Sums.{granted_to, left_in, reserved_in}
use Rattle.rows_statements.specs.SoundRows.{grant_rows, CanBeAdded}
use Rattle.rows_tables.specs.Accounts.{HoldsRoom}
use Rattle.rows_tables.specs.Keyed.{HasSchema}
use Rattle.store_rounds.proofs.LookLemmas.{fault_of, looked, passed_then, read_passed}
use Rattle.store_events.proofs.quota.left_now.Goals as goal

pub returns-in_err-sums-clause-damaged : goal.returns-in_err-sums-clause-damaged
returns-in_err-sums-clause-damaged g c clean has is readable =
    let told = err_from_is_err_and c.from_residual.result c.from_residual.ensures.1 in
    c.in_err-sums.ensures.damaged clean has (ap (λ e. Err e) (fault_of c.from_residual.result told.0 _ _ told.1 told.2 is)) readable.jobs

pub returns-in_err-granted-clause-damaged : goal.returns-in_err-granted-clause-damaged
returns-in_err-granted-clause-damaged g c clean has is readable =
    let old = c.args.connection.now in
    let mid = c.sum_up.new.connection in
    let told = err_from_is_err_and c.from_residual-in_err-granted.result c.from_residual-in_err-granted.ensures.1 in
    let was : HasCleanDisk (state g.S.Store mid) = omega (arith, c.in_err-granted.ensures.reads.keeps.clean, clean) in
    let same = ((read_passed g.S.Store old mid _ c.in_ok-sums.ensures.reads).same was has).now in
    c.in_err-granted.ensures.damaged clean (subst HasSchema (sym same) has) (ap (λ e. Err e) (fault_of c.from_residual-in_err-granted.result told.0 _ _ told.1 told.2 is)) (subst (λ (db : Database). CanBeAdded c.args.account (month_at c.args.now) (grant_rows db c.args.account)) (sym same) readable.grants)

pub returns-clause-left : goal.returns-clause-left
returns-clause-left g c clean has room held =
    let old = c.args.connection.now in
    let mid = c.sum_up.new.connection in
    let was : HasCleanDisk (state g.S.Store mid) = omega (arith, c.in_ok-granted.ensures.reads.keeps.clean, clean) in
    let same = ((read_passed g.S.Store old mid _ c.in_ok-sums.ensures.reads).same was has).now in
    let reserved = c.in_ok-sums.ensures.reserved was has room held in
    let charged = c.in_ok-sums.ensures.charged was has room held in
    let granted = c.in_ok-granted.ensures.granted clean (subst HasSchema (sym same) has) room (subst (λ (db : Database). HoldsRoom db c.args.account room) (sym same) held) in
    let left : c.left_of.result ≡ left_in room c.args.now =
    c.left_of.ensures.left
    ∙ ap (λ units. left_of (pos units) (pos c.in_ok-sums.sums.reserved) (pos c.in_ok-sums.sums.charged)) granted
    ∙ ap (λ units. left_of (pos (granted_to room (month_at c.args.now))) (pos units) (pos c.in_ok-sums.sums.charged)) reserved
    ∙ ap (λ units. left_of (pos (granted_to room (month_at c.args.now))) (pos (reserved_in room)) (pos units)) charged in
    search (rules, left)

pub returns-clause-looks : goal.returns-clause-looks
returns-clause-looks g c =
    looked g.S.Store _ _ _
    (passed_then (state g.S.Store c.args.connection.now) (state g.S.Store c.sum_up.new.connection) (state g.S.Store c.granted_now.new.connection) (read_passed g.S.Store _ _ _ c.in_ok-sums.ensures.reads) (read_passed g.S.Store _ _ _ c.in_ok-granted.ensures.reads))
