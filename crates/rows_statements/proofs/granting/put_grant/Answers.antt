use Rattle.std.proofs.Common.{◌≡◌, subst, rules}
use Rattle.std.proofs.lemmas.Result.{err_from_is_err_and}
use Rattle.rows_tables.specs.Cells.{grant_cells}
use Rattle.rows_tables.specs.Keyed.{SetsRow}
use Rattle.rows_tables.specs.Tables.{grants as grants_table}
use Rattle.rows_tables.specs.Calls.{ChangesWhole}
use Rattle.rows_tables.proofs.SavepointChanges.{ended_changed, unwritten_changed}
use Rattle.rows_statements.proofs.granting.put_grant.Goals as goal

pub returns-in_err-set_grant : goal.returns-in_err-set_grant
returns-in_err-set_grant g c =
    let told = err_from_is_err_and c.from_residual-in_err-set_grant.result c.from_residual-in_err-set_grant.ensures.1 in
    let same : c.drop-savepoint.new.self.0 ≡ c.connection-in_err-set_grant-1.given.0 = search rules in
    record {
      sets = subst (λ h. ChangesWhole g.S.Store c.args.connection.now h c.from_residual-in_err-set_grant.result (SetsRow grants_table (grant_cells c.args.account c.args.month c.args.pages))) same
          (unwritten_changed g.S.Store c.args.connection.now c.drop-savepoint.new.self.0 c.in_ok-savepoint.savepoint c.set_grant.new.savepoint c.in_ok-savepoint.ensures.ok c.in_ok-savepoint.ensures.survives c.in_err-set_grant.field-0.0 c.in_err-set_grant.ensures.inside c.drop-savepoint.ensures.survives c.drop-savepoint.ensures.undone _ _ told.1 (SetsRow grants_table (grant_cells c.args.account c.args.month c.args.pages)));
    }

pub returns : goal.returns
returns g c =
    let same : c.commit.new.self.0 ≡ c.connection-2-1.given.0 = search rules in
    record {
      sets = subst (λ h. ChangesWhole g.S.Store c.args.connection.now h c.commit.result (SetsRow grants_table (grant_cells c.args.account c.args.month c.args.pages))) same
          (ended_changed g.S.Store c.args.connection.now c.commit.new.self.0 c.in_ok-savepoint.savepoint c.set_grant.new.savepoint c.in_ok-savepoint.ensures.ok c.in_ok-savepoint.ensures.survives _ c.in_ok-set_grant.ensures.inside c.commit.ensures.survives c.commit.result c.commit.ensures.ok c.commit.ensures.err (SetsRow grants_table (grant_cells c.args.account c.args.month c.args.pages)) c.in_ok-set_grant.ensures.sets);
    }
