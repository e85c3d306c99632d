use Rattle.rows_tables.specs.Cells.{grant_cells}
use Rattle.rows_tables.specs.Keyed.{SetsRow}
use Rattle.rows_tables.specs.Tables.{grants as grants_table}
use Rattle.rows_statements.specs.Changed.{GrantsPages}
use Rattle.rows_statements.proofs.Retelling.{told_as}
use Rattle.rows_statements.proofs.LeftAlone.{grant_alone, grant_leaves_account, grant_leaves_jobs}
use Rattle.rows_statements.proofs.OwnRooms.{granted_room}
use Rattle.rows_statements.proofs.granting.add_grant.Goals as goal

pub returns : goal.returns
returns g c = record { grants = told_as g.S.Store c.args.connection.now c.put_grant.new.connection (SetsRow grants_table (grant_cells c.args.account c.args.month c.args.pages)) (GrantsPages c.args.account c.args.month c.args.pages) c.put_grant.result (λ clean has after made. record { room = granted_room c.args.account c.args.month c.args.pages _ _ made; account = grant_leaves_account c.args.account _ _ _ made; jobs = grant_leaves_jobs c.args.account _ _ _ made; alone = grant_alone c.args.account _ _ _ made }) c.put_grant.ensures.sets }
