use Rattle.std.proofs.Common.{◌≡◌, ◌∙◌, sym, ap, refl, Err, arith}
use Rattle.std.proofs.lemmas.Result.{err_from_is_err_and}
use Rattle.sqlite.specs.Held.{state}
use Rattle.rows_tables.specs.declared.fault.TableFault.TheVariants.{Damaged}
use Rattle.rows_tables.proofs.KeyedRows.{same_fault}
use Rattle.rows_statements.specs.SoundRows.{unfinished_rows}
use Rattle.rows_statements.proofs.CountWalk.{all_counted, count_of_room, count_within, too_many}
use Rattle.rows_statements.proofs.unfinished.count_unfinished.Goals as goal

pub returns-clause-counted : goal.returns-clause-counted
returns-clause-counted g c clean has room held =
    let db = (state g.R.S.Store (g.R.Reads.held c.args.connection.now)).now in
    all_counted (unfinished_rows db c.args.account) (record { count = 0 }) refl c.walk_index.new.unfinished (c.in_ok-walk_index.ensures.walks clean has).all ∙ count_of_room db has c.args.account room held

pub returns-clause-rows : goal.returns-clause-rows
returns-clause-rows g c clean has = all_counted (unfinished_rows (state g.R.S.Store (g.R.Reads.held c.args.connection.now)).now c.args.account) (record { count = 0 }) refl c.walk_index.new.unfinished (c.in_ok-walk_index.ensures.walks clean has).all

pub returns-in_err-walk_index-clause-damaged : goal.returns-in_err-walk_index-clause-damaged
returns-in_err-walk_index-clause-damaged g c clean has is_damaged =
    let told = err_from_is_err_and c.from_residual.result c.from_residual.ensures.1 in
    let fault : c.in_err-walk_index.field-0.0 ≡ Damaged = sym told.2 ∙ same_fault (sym told.1 ∙ is_damaged) in
    too_many (unfinished_rows (state g.R.S.Store (g.R.Reads.held c.args.connection.now)).now c.args.account) (record { count = 0 }) refl ((c.in_err-walk_index.ensures.walks clean has).damaged (ap Err fault))

pub returns-clause-few : goal.returns-clause-few
returns-clause-few g c = let gathered = c.in_ok-walk_index.ensures.gathers in count_within (record { count = 0 }) c.walk_index.new.unfinished gathered.0 gathered.1 (omega arith)
