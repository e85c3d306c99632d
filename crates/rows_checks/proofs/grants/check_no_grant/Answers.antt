use Rattle.std.proofs.Common.{◌≡◌, ℤ, None}
use Rattle.sqlite.specs.Held.{state}
use Rattle.rows_tables.specs.Accounts.{grant_at}
use Rattle.rows_checks.proofs.NoKeys.{grant_there, no_grants_there}
use Rattle.rows_checks.proofs.ReadsBefore.{on_ok_with}
use Rattle.rows_checks.proofs.grants.check_no_grant.Goals as goal

pub returns-clause-none : goal.returns-clause-none
returns-clause-none g c clean has =
    let db = (state g.R.S.Store (g.R.Reads.held c.args.connection.now)).now in
    on_ok_with {Q = (z : ℤ) → grant_at db c.args.account z ≡ None} c.walk_months.result (no_grants_there db has c.args.account _ _) (c.walk_months.ensures.walks clean has).all

pub returns-clause-damaged : goal.returns-clause-damaged
returns-clause-damaged g c clean has is_damaged =
    let db = (state g.R.S.Store (g.R.Reads.held c.args.connection.now)).now in
    grant_there db has c.args.account _ _ _ ((c.walk_months.ensures.walks clean has).damaged is_damaged)
