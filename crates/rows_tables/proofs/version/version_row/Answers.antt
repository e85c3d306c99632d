use Rattle.std.proofs.Common.{[], ◌∷◌, codes}
use Rattle.sqlite_sql.specs.Term.{col}
use Rattle.rows_tables.specs.Places.{meta_tree, meta_column}
use Rattle.rows_tables.specs.Making.{version_tests}
use Rattle.rows_tables.proofs.VersionLemmas.{find_version_is, find_version_takes}
use Rattle.rows_tables.proofs.version.version_row.Goals as goal

pub returns-clause-finds : goal.returns-clause-finds
returns-clause-finds g c clean ours =
    c.find_row.ensures.finds clean meta_tree version_tests (col 1 meta_column.version ∷ []) (codes "version" ∷ []) 0 (find_version_is c.args.connection.now.schema ours) (find_version_takes c.args.connection.now.schema ours)
