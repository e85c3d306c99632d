use Rattle.std.proofs.Common.{◌≡◌, subst, rules}
use Rattle.std.proofs.lemmas.Result.{err_from_is_err_and}
use Rattle.rows_tables.specs.Cells.{account_cells}
use Rattle.rows_tables.specs.Keyed.{SetsRow}
use Rattle.rows_tables.specs.Tables.{account as account_table}
use Rattle.rows_tables.specs.Calls.{ChangesWhole}
use Rattle.rows_tables.proofs.SavepointChanges.{ended_changed, unwritten_changed}
use Rattle.rows_statements.proofs.opening.put_account.Goals as goal

pub returns-in_err-set_account : goal.returns-in_err-set_account
returns-in_err-set_account g c =
    let told = err_from_is_err_and c.from_residual-in_err-set_account.result c.from_residual-in_err-set_account.ensures.1 in
    let same : c.drop-savepoint.new.self.0 ≡ c.connection-in_err-set_account-1.given.0 = search rules in
    record {
      sets = subst (λ h. ChangesWhole g.S.Store c.args.connection.now h c.from_residual-in_err-set_account.result (SetsRow account_table (account_cells c.args.account c.args.row))) same
          (unwritten_changed g.S.Store c.args.connection.now c.drop-savepoint.new.self.0 c.in_ok-savepoint.savepoint c.set_account.new.savepoint c.in_ok-savepoint.ensures.ok c.in_ok-savepoint.ensures.survives c.in_err-set_account.field-0.0 c.in_err-set_account.ensures.inside c.drop-savepoint.ensures.survives c.drop-savepoint.ensures.undone _ _ told.1 (SetsRow account_table (account_cells c.args.account c.args.row)));
    }

pub returns : goal.returns
returns g c =
    let same : c.commit.new.self.0 ≡ c.connection-2-1.given.0 = search rules in
    record {
      sets = subst (λ h. ChangesWhole g.S.Store c.args.connection.now h c.commit.result (SetsRow account_table (account_cells c.args.account c.args.row))) same
          (ended_changed g.S.Store c.args.connection.now c.commit.new.self.0 c.in_ok-savepoint.savepoint c.set_account.new.savepoint c.in_ok-savepoint.ensures.ok c.in_ok-savepoint.ensures.survives _ c.in_ok-set_account.ensures.inside c.commit.ensures.survives c.commit.result c.commit.ensures.ok c.commit.ensures.err (SetsRow account_table (account_cells c.args.account c.args.row)) c.in_ok-set_account.ensures.sets);
    }
