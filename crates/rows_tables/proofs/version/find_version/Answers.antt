use Rattle.sqlite.specs.Held.{state}
use Rattle.rows_tables.proofs.VersionLemmas.{none_found, version_read}
use Rattle.rows_tables.proofs.version.find_version.Goals as goal

pub returns-in-Some-clause-found : goal.returns-in-Some-clause-found
returns-in-Some-clause-found g c clean ours =
    version_read (state g.S.Store c.args.connection.now).now c.in-Some.row (rw c.in-Some.is at (c.in_ok-row.ensures.finds clean ours).found) c.version_from.result c.version_from.ensures.read

pub returns-in-None-clause-found : goal.returns-in-None-clause-found
returns-in-None-clause-found g c clean ours =
    none_found (state g.S.Store c.args.connection.now).now (rw c.in-None.is at (c.in_ok-row.ensures.finds clean ours).found)
