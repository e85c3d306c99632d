use Rattle.std.proofs.Common.{◌≡◌, ◌∙◌, sym, ap, Err}
use Rattle.std.proofs.lemmas.Result.{err_from_is_err_and}
use Rattle.sqlite.specs.Held.{state}
use Rattle.rows_tables.specs.declared.fault.TableFault.TheVariants.{Damaged}
use Rattle.rows_tables.proofs.KeyedRows.{same_fault}
use Rattle.rows_statements.proofs.NameListing.{names_listed, names_unsound}
use Rattle.rows_statements.proofs.account_names.next_accounts.Goals as goal

pub returns-in_err-walk_names-clause-damaged : goal.returns-in_err-walk_names-clause-damaged
returns-in_err-walk_names-clause-damaged g c clean has is_damaged =
    let told = err_from_is_err_and c.from_residual.result c.from_residual.ensures.1 in
    let fault : c.in_err-walk_names.field-0.0 ≡ Damaged = sym told.2 ∙ same_fault (sym told.1 ∙ is_damaged) in
    names_unsound (state g.R.S.Store (g.R.Reads.held c.args.connection.now)).now has c.args.behind _ ((c.in_err-walk_names.ensures.walks clean has).damaged (ap Err fault))

pub returns-clause-listed : goal.returns-clause-listed
returns-clause-listed g c clean has =
    names_listed (state g.R.S.Store (g.R.Reads.held c.args.connection.now)).now has c.args.behind _ c.walk_names.new.names c.new.ensures.items (c.in_ok-walk_names.ensures.walks clean has).all
