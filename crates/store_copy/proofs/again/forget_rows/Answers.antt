use Rattle.std.proofs.Common.{arith}
use Rattle.std.proofs.lemmas.Result.{err_from_is_err_and}
use Rattle.sqlite.specs.Held.{state}
use Rattle.sqlite.specs.State.{HasCleanDisk}
use Rattle.rows_tables.proofs.Savepoints.{inside_then, refused_as, then_changed}
use Rattle.store_copy.proofs.Forgotten.{forgotten}
use Rattle.store_copy.proofs.again.forget_rows.Goals as goal

pub returns-in_err-remove_jobs-clause-inside : goal.returns-in_err-remove_jobs-clause-inside
returns-in_err-remove_jobs-clause-inside g c =
    let told = err_from_is_err_and c.from_residual-in_err-remove_jobs.result c.from_residual-in_err-remove_jobs.ensures.1 in
    refused_as _ _ c.in_err-remove_jobs.field-0.0 _ _ told.1 (inside_then _ _ _ _ _ c.in_ok-remove_documents.ensures.inside c.in_err-remove_jobs.ensures.inside)

pub returns-in_err-remove_grants-clause-inside : goal.returns-in_err-remove_grants-clause-inside
returns-in_err-remove_grants-clause-inside g c =
    let told = err_from_is_err_and c.from_residual-in_err-remove_grants.result c.from_residual-in_err-remove_grants.ensures.1 in
    refused_as _ _ c.in_err-remove_grants.field-0.0 _ _ told.1 (inside_then _ _ _ _ _ (inside_then _ _ _ _ _ c.in_ok-remove_documents.ensures.inside c.in_ok-remove_jobs.ensures.inside) c.in_err-remove_grants.ensures.inside)

pub returns-clause-inside : goal.returns-clause-inside
returns-clause-inside g c =
    inside_then _ _ _ _ _ (inside_then _ _ _ _ _ (inside_then _ _ _ _ _ c.in_ok-remove_documents.ensures.inside c.in_ok-remove_jobs.ensures.inside) c.in_ok-remove_grants.ensures.inside) c.remove_account.ensures.inside

pub returns-clause-forgets : goal.returns-clause-forgets
returns-clause-forgets g c clean =
    let three : HasCleanDisk (state g.T.Store c.remove_grants.new.savepoint.conn.now) = omega (arith, c.remove_account.ensures.inside.survives.clean, clean) in
    let two : HasCleanDisk (state g.T.Store c.remove_jobs.new.savepoint.conn.now) = omega (arith, c.in_ok-remove_grants.ensures.inside.survives.clean, three) in
    let one : HasCleanDisk (state g.T.Store c.remove_documents.new.savepoint.conn.now) = omega (arith, c.in_ok-remove_jobs.ensures.inside.survives.clean, two) in
    then_changed c.remove_account.result _ _ (λ removes has.
    let documents = c.in_ok-remove_documents.ensures.removes one has in
    let jobs = c.in_ok-remove_jobs.ensures.removes two documents.0 in
    let granted = c.in_ok-remove_grants.ensures.removes three jobs.0 in
    let own = removes granted.0 in (
      own.0,
      forgotten c.args.account _ _ _ _ _ documents.1 jobs.1 granted.1 own.1,
    ))
    (c.remove_account.ensures.removes clean)
