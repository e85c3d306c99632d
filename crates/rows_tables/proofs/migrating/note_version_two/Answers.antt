use Rattle.sqlite.specs.Held.{state}
use Rattle.rows_tables.proofs.VersionTwo.{notes_two}
use Rattle.rows_tables.proofs.Savepoints.{then_changed}
use Rattle.rows_tables.proofs.migrating.note_version_two.Goals as goal

pub returns-clause-notes : goal.returns-clause-notes
returns-clause-notes g c clean =
    let old = state g.S.Store c.args.savepoint.now.conn.now in
    let new = state g.S.Store c.write.new.savepoint.conn.now in
    then_changed c.write.result _ _ (λ run. notes_two old new run.0 run.1) (c.write.ensures.runs clean)
