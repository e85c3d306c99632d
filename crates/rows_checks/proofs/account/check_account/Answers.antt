use Rattle.std.proofs.Common.{◌≡◌, ◌∙◌, Err, None, sym, ap, arith}
use Rattle.std.proofs.lemmas.Result.{err_from_is_err_and}
use Rattle.sqlite.specs.Effect.{Database}
use Rattle.sqlite.specs.State.{HasCleanDisk}
use Rattle.sqlite.specs.Held.{state}
use Rattle.rows_tables.specs.Accounts.{account_at, HoldsNothing}
use Rattle.rows_tables.specs.declared.fault.TableFault.TheVariants.{Damaged}
use Rattle.rows_tables.proofs.KeyedRows.{same_fault}
use Rattle.rows_checks.specs.Checks.{AreOfNoRoom, OthersAreInOrder}
use Rattle.rows_statements.proofs.AccountLemmas.{account_read}
use Rattle.rows_checks.proofs.CheckedAccounts.{nothing_sound, room_sound}
use Rattle.rows_checks.proofs.CheckedRooms.{rows_in_order_are_sound}
use Rattle.rows_checks.proofs.ReadsBefore.{told_before}
use Rattle.rows_checks.proofs.account.check_account.Goals as goal

pub returns-in_err-row-clause-damaged : goal.returns-in_err-row-clause-damaged
returns-in_err-row-clause-damaged g c clean has is_damaged sound =
    let told = err_from_is_err_and c.from_residual.result c.from_residual.ensures.1 in
    let fault : c.in_err-row.field-0.0 ≡ Damaged = sym told.2 ∙ same_fault (sym told.1 ∙ is_damaged) in
    c.in_err-row.ensures.damaged clean has (ap Err fault) (account_read (state g.R.S.Store (g.R.Reads.held c.args.connection.now)).now c.args.account sound)

pub returns-in_err-check_room-in-Some-clause-damaged : goal.returns-in_err-check_room-in-Some-clause-damaged
returns-in_err-check_room-in-Some-clause-damaged g c clean has is_damaged =
    let db = (state g.R.S.Store (g.R.Reads.held c.args.connection.now)).now in
    let told = err_from_is_err_and c.from_residual-in_err-check_room-in-Some.result c.from_residual-in_err-check_room-in-Some.ensures.1 in
    let fault : c.in_err-check_room-in-Some.field-0.0 ≡ Damaged = sym told.2 ∙ same_fault (sym told.1 ∙ is_damaged) in
    let before : HasCleanDisk (state g.R.S.Store (g.R.Reads.held c.find_account.new.connection)) = omega (arith, c.in_err-check_room-in-Some.ensures.reads.keeps.clean, clean) in
    let found = rw c.in-Some.is at (c.in_ok-row.ensures.found before has) in
    room_sound db c.args.account c.in-Some.row found
    (told_before g.R.S.Store (g.R.Reads.held c.args.connection.now) (g.R.Reads.held c.find_account.new.connection) (g.R.Reads.held c.check_room.new.connection) c.in_ok-row.field-0 c.in_ok-row.ensures.reads c.in_err-check_room-in-Some.ensures.reads.keeps
    (λ (d : Database). AreOfNoRoom d c.args.account c.in-Some.row.next_job) (λ clean has. c.in_err-check_room-in-Some.ensures.damaged clean has (ap Err fault)) clean has)

pub returns-in_err-check_nothing-in-None-clause-damaged : goal.returns-in_err-check_nothing-in-None-clause-damaged
returns-in_err-check_nothing-in-None-clause-damaged g c clean has is_damaged =
    let db = (state g.R.S.Store (g.R.Reads.held c.args.connection.now)).now in
    let told = err_from_is_err_and c.from_residual-in_err-check_nothing-in-None.result c.from_residual-in_err-check_nothing-in-None.ensures.1 in
    let fault : c.in_err-check_nothing-in-None.field-0.0 ≡ Damaged = sym told.2 ∙ same_fault (sym told.1 ∙ is_damaged) in
    let before : HasCleanDisk (state g.R.S.Store (g.R.Reads.held c.find_account.new.connection)) = omega (arith, c.in_err-check_nothing-in-None.ensures.reads.keeps.clean, clean) in
    let found = rw c.in-None.is at (c.in_ok-row.ensures.found before has) in
    nothing_sound db c.args.account found
    (told_before g.R.S.Store (g.R.Reads.held c.args.connection.now) (g.R.Reads.held c.find_account.new.connection) (g.R.Reads.held c.check_nothing.new.connection) c.in_ok-row.field-0 c.in_ok-row.ensures.reads c.in_err-check_nothing-in-None.ensures.reads.keeps
    (λ (d : Database). HoldsNothing d c.args.account → ⊥) (λ clean has. c.in_err-check_nothing-in-None.ensures.damaged clean has (ap Err fault)) clean has)

pub returns-in_ok-check_room-in-Some-clause-sound : goal.returns-in_ok-check_room-in-Some-clause-sound
returns-in_ok-check_room-in-Some-clause-sound g c clean has =
    let db = (state g.R.S.Store (g.R.Reads.held c.args.connection.now)).now in
    let before : HasCleanDisk (state g.R.S.Store (g.R.Reads.held c.find_account.new.connection)) = omega (arith, c.in_ok-check_room-in-Some.ensures.reads.keeps.clean, clean) in
    let found = rw c.in-Some.is at (c.in_ok-row.ensures.found before has) in
    let in_range = rw c.in-Some.is at c.in_ok-row.ensures.in_range in
    let others = told_before g.R.S.Store (g.R.Reads.held c.args.connection.now) (g.R.Reads.held c.find_account.new.connection) (g.R.Reads.held c.check_room.new.connection) c.in_ok-row.field-0 c.in_ok-row.ensures.reads c.in_ok-check_room-in-Some.ensures.reads.keeps
    (λ (d : Database). OthersAreInOrder d c.args.account c.in-Some.row.next_job) c.in_ok-check_room-in-Some.ensures.in_order clean has in
    rows_in_order_are_sound db c.args.account c.in-Some.row has (record { account_row = found; in_range = in_range; others = others })

pub returns-in_ok-check_nothing-in-None-clause-sound : goal.returns-in_ok-check_nothing-in-None-clause-sound
returns-in_ok-check_nothing-in-None-clause-sound g c clean has =
    let db = (state g.R.S.Store (g.R.Reads.held c.args.connection.now)).now in
    let before : HasCleanDisk (state g.R.S.Store (g.R.Reads.held c.find_account.new.connection)) = omega (arith, c.in_ok-check_nothing-in-None.ensures.reads.keeps.clean, clean) in
    let found = rw c.in-None.is at (c.in_ok-row.ensures.found before has) in
    let nothing = told_before g.R.S.Store (g.R.Reads.held c.args.connection.now) (g.R.Reads.held c.find_account.new.connection) (g.R.Reads.held c.check_nothing.new.connection) c.in_ok-row.field-0 c.in_ok-row.ensures.reads c.in_ok-check_nothing-in-None.ensures.reads.keeps
    (λ (d : Database). account_at d c.args.account ≡ None → HoldsNothing d c.args.account) c.in_ok-check_nothing-in-None.ensures.nothing clean has in
    nothing found
