use Rattle.std.proofs.Common.{◌≡◌, ◌∙◌, sym, ap, subst, Err}
use Rattle.std.specs.List.{AllByRecursion}
use Rattle.std.proofs.lemmas.Result.{err_from_is_err_and}
use Rattle.sqlite.specs.Held.{state}
use Rattle.rows_tables.specs.declared.fault.TableFault.TheVariants.{Damaged}
use Rattle.rows_tables.proofs.KeyedRows.{same_fault}
use Rattle.rows_statements.specs.GrantLists.{IsInRange}
use Rattle.rows_statements.proofs.GrantLists.{all_in_range, grants_listed, list_unsound}
use Rattle.rows_statements.proofs.grant_list.list_grants.Goals as goal

pub returns-in_err-walk_by_month-clause-damaged : goal.returns-in_err-walk_by_month-clause-damaged
returns-in_err-walk_by_month-clause-damaged g c clean has is_damaged =
    let told = err_from_is_err_and c.from_residual.result c.from_residual.ensures.1 in
    let fault : c.in_err-walk_by_month.field-0.0 ≡ Damaged = sym told.2 ∙ same_fault (sym told.1 ∙ is_damaged) in
    list_unsound (state g.R.S.Store (g.R.Reads.held c.args.connection.now)).now c.args.account _ ((c.in_err-walk_by_month.ensures.walks clean has).damaged (ap Err fault))

pub returns-clause-listed : goal.returns-clause-listed
returns-clause-listed g c clean has room held =
    grants_listed (state g.R.S.Store (g.R.Reads.held c.args.connection.now)).now c.args.account _ room held c.walk_by_month.new.grants c.new.ensures.items (c.in_ok-walk_by_month.ensures.walks clean has).all

pub returns-clause-in_range : goal.returns-clause-in_range
returns-clause-in_range g c =
    let gathered = c.in_ok-walk_by_month.ensures.gathers in
    all_in_range _ c.walk_by_month.new.grants gathered.0 gathered.1 (subst (AllByRecursion IsInRange) (sym c.new.ensures.items) tt)
