use Rattle.sqlite.specs.Held.{state}
use Rattle.rows_tables.proofs.Created.{numbers_version}
use Rattle.rows_tables.proofs.Savepoints.{then_changed}
use Rattle.rows_tables.proofs.making.note_version.Goals as goal

pub returns-clause-made : goal.returns-clause-made
returns-clause-made g c clean =
    let old = state g.S.Store c.args.savepoint.now.conn.now in
    let new = state g.S.Store c.write.new.savepoint.conn.now in
    then_changed c.write.result _ _ (λ run. numbers_version old new run.0 run.1) (c.write.ensures.runs clean)
