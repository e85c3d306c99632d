use Rattle.rows_tables.proofs.Savepoints.{inside_then}
use Rattle.rows_statements.proofs.job_changes.end.Goals as goal

pub returns-clause-inside : goal.returns-clause-inside
returns-clause-inside g c = inside_then _ _ _ _ _ c.in_ok-set_standing.ensures.inside c.remove_documents.ensures.inside
