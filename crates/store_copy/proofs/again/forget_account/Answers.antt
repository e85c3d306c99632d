use Rattle.std.proofs.Common.{◌≡◌, subst, rules}
use Rattle.std.proofs.lemmas.Result.{err_from_is_err_and}
use Rattle.rows_tables.specs.Calls.{ChangesWhole}
use Rattle.rows_tables.proofs.SavepointChanges.{ended_changed, unwritten_changed}
use Rattle.store_copy.specs.Slices.{ForgetsAccount}
use Rattle.store_copy.proofs.again.forget_account.Goals as goal

pub returns-in_err-forget_rows : goal.returns-in_err-forget_rows
returns-in_err-forget_rows g c =
    let told = err_from_is_err_and c.from_residual-in_err-forget_rows.result c.from_residual-in_err-forget_rows.ensures.1 in
    let same : c.drop-savepoint.new.self.0 ≡ c.copy-in_err-forget_rows-1.given.0 = search rules in
    record {
      forgets = subst (λ h. ChangesWhole g.T.Store c.args.copy.now h c.from_residual-in_err-forget_rows.result (ForgetsAccount c.args.account)) same
          (unwritten_changed g.T.Store c.args.copy.now c.drop-savepoint.new.self.0 c.in_ok-savepoint.savepoint c.forget_rows.new.savepoint c.in_ok-savepoint.ensures.ok c.in_ok-savepoint.ensures.survives c.in_err-forget_rows.field-0.0 c.in_err-forget_rows.ensures.inside c.drop-savepoint.ensures.survives c.drop-savepoint.ensures.undone _ _ told.1 (ForgetsAccount c.args.account));
    }

pub returns : goal.returns
returns g c =
    let same : c.commit.new.self.0 ≡ c.copy-2-1.given.0 = search rules in
    record {
      forgets = subst (λ h. ChangesWhole g.T.Store c.args.copy.now h c.commit.result (ForgetsAccount c.args.account)) same
          (ended_changed g.T.Store c.args.copy.now c.commit.new.self.0 c.in_ok-savepoint.savepoint c.forget_rows.new.savepoint c.in_ok-savepoint.ensures.ok c.in_ok-savepoint.ensures.survives _ c.in_ok-forget_rows.ensures.inside c.commit.ensures.survives c.commit.result c.commit.ensures.ok c.commit.ensures.err (ForgetsAccount c.args.account) c.in_ok-forget_rows.ensures.forgets);
    }
