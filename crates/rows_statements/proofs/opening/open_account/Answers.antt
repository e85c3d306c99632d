use Rattle.rows_tables.specs.Cells.{account_cells}
use Rattle.rows_tables.specs.Keyed.{SetsRow}
use Rattle.rows_tables.specs.Tables.{account as account_table}
use Rattle.rows_statements.specs.Changed.{OpensAccount}
use Rattle.rows_statements.proofs.Retelling.{told_as}
use Rattle.rows_statements.proofs.LeftAlone.{account_alone}
use Rattle.rows_statements.proofs.OwnRooms.{opened_room}
use Rattle.rows_statements.proofs.opening.open_account.Goals as goal

pub returns : goal.returns
returns g c = record { opens = told_as g.S.Store c.args.connection.now c.put_account.new.connection (SetsRow account_table (account_cells c.args.account (record { opened = c.seconds.result; next_job = 1 }))) (OpensAccount c.args.account c.args.now) c.put_account.result (λ clean has after made. record { room = opened_room c.args.account _ _ c.args.now c.seconds.ensures.range (rw c.seconds.ensures.value at made); alone = account_alone c.args.account _ _ _ made }) c.put_account.ensures.sets }
