use Rattle.std.proofs.lemmas.Result.{err_from_is_err_and}
use Rattle.rows_tables.proofs.Savepoints.{inside_then, refused_as}
use Rattle.rows_statements.proofs.job_changes.add_with_document.Goals as goal

pub returns-clause-inside : goal.returns-clause-inside
returns-clause-inside g c = inside_then _ _ _ _ _ (inside_then _ _ _ _ _ c.in_ok-add_job.ensures.inside c.in_ok-add_document.ensures.inside) c.advance_next_job.ensures.inside

pub returns-in_err-add_document-clause-inside : goal.returns-in_err-add_document-clause-inside
returns-in_err-add_document-clause-inside g c =
    let told = err_from_is_err_and c.from_residual-in_err-add_document.result c.from_residual-in_err-add_document.ensures.1 in
    refused_as _ _ c.in_err-add_document.field-0.0 _ _ told.1 (inside_then _ _ _ _ _ c.in_ok-add_job.ensures.inside c.in_err-add_document.ensures.inside)
