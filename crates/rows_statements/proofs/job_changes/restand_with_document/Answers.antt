use Rattle.std.proofs.lemmas.Result.{err_from_is_err_and}
use Rattle.rows_tables.proofs.Savepoints.{answered_as, inside_then, refused_as}
use Rattle.rows_statements.proofs.job_changes.restand_with_document.Goals as goal

pub returns-in_err-set_standing-clause-inside : goal.returns-in_err-set_standing-clause-inside
returns-in_err-set_standing-clause-inside g c =
    let told = err_from_is_err_and c.from_residual-in_err-set_standing.result c.from_residual-in_err-set_standing.ensures.1 in
    refused_as _ _ c.in_err-set_standing.field-0.0 _ _ told.1 (inside_then _ _ _ _ _ c.in_ok-add_document.ensures.inside c.in_err-set_standing.ensures.inside)

pub returns-clause-inside : goal.returns-clause-inside
returns-clause-inside g c = inside_then _ _ _ _ _ c.in_ok-add_document.ensures.inside (answered_as _ _ _ _ c.in_ok-set_standing.ensures.inside)
