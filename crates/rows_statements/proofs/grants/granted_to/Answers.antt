use Rattle.std.proofs.Common.{◌≡◌, ◌∙◌, sym, ap, Err, arith}
use Rattle.std.specs.FinMap.{entries}
use Rattle.std.proofs.lemmas.Result.{err_from_is_err_and}
use Rattle.sqlite.specs.Held.{state}
use Rattle.rows_tables.specs.declared.fault.TableFault.TheVariants.{Damaged}
use Rattle.rows_tables.proofs.KeyedRows.{same_fault}
use Rattle.rows_statements.proofs.AccountRows.{rows_of_grants}
use Rattle.rows_statements.proofs.GrantWalk.{pages_granted, pages_within, grants_unsound}
use Rattle.rows_statements.proofs.grants.granted_to.Goals as goal

pub returns-clause-granted : goal.returns-clause-granted
returns-clause-granted g c clean has room held =
    let db = (state g.R.S.Store (g.R.Reads.held c.args.connection.now)).now in
    pages_granted db has c.args.account c.args.month (entries room.grants) (rows_of_grants db has c.args.account room held) c.walk_grants.new.granted (c.in_ok-walk_grants.ensures.walks clean has).all

pub returns-in_err-walk_grants-clause-damaged : goal.returns-in_err-walk_grants-clause-damaged
returns-in_err-walk_grants-clause-damaged g c clean has is_damaged =
    let told = err_from_is_err_and c.from_residual.result c.from_residual.ensures.1 in
    let fault : c.in_err-walk_grants.field-0.0 ≡ Damaged = sym told.2 ∙ same_fault (sym told.1 ∙ is_damaged) in
    grants_unsound (state g.R.S.Store (g.R.Reads.held c.args.connection.now)).now has c.args.account c.args.month ((c.in_err-walk_grants.ensures.walks clean has).damaged (ap Err fault))

pub returns-clause-in_range : goal.returns-clause-in_range
returns-clause-in_range g c = let gathered = c.in_ok-walk_grants.ensures.gathers in pages_within (record { month = c.args.month; pages = 0 }) c.walk_grants.new.granted gathered.0 gathered.1 (omega arith)
