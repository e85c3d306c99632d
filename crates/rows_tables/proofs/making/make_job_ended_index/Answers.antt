use Rattle.sqlite.specs.Held.{state}
use Rattle.rows_tables.proofs.IndexLemmas.{adds_index}
use Rattle.rows_tables.proofs.Savepoints.{then_changed}
use Rattle.rows_tables.proofs.making.make_job_ended_index.Goals as goal

pub returns-clause-adds : goal.returns-clause-adds
returns-clause-adds g c clean =
    let old = state g.S.Store c.args.savepoint.now.conn.now in
    let new = state g.S.Store c.write.new.savepoint.conn.now in
    then_changed c.write.result _ _ (λ run. adds_index old new run.0 run.1) (c.write.ensures.runs clean)
