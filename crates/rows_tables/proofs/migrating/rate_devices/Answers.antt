use Rattle.sqlite.specs.Held.{state}
use Rattle.rows_tables.proofs.RatedLemmas.{rates_devices}
use Rattle.rows_tables.proofs.Savepoints.{then_changed}
use Rattle.rows_tables.proofs.migrating.rate_devices.Goals as goal

pub returns-clause-rates : goal.returns-clause-rates
returns-clause-rates g c clean =
    let old = state g.S.Store c.args.savepoint.now.conn.now in
    let new = state g.S.Store c.write.new.savepoint.conn.now in
    then_changed c.write.result _ _ (λ run. rates_devices old new run.0 run.1) (c.write.ensures.runs clean)
