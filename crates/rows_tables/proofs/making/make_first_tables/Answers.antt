use Rattle.std.proofs.lemmas.Result.{err_from_is_err_and}
use Rattle.rows_tables.proofs.Savepoints.{inside_then, refused_as}
use Rattle.rows_tables.proofs.making.make_first_tables.Goals as goal

pub returns-in_err-make-4-clause-inside : goal.returns-in_err-make-4-clause-inside
returns-in_err-make-4-clause-inside g c =
    let told = err_from_is_err_and c.from_residual-in_err-make-4.result c.from_residual-in_err-make-4.ensures.1 in
    refused_as _ _ c.in_err-make-4.field-0.0 _ _ told.1 (inside_then _ _ _ _ _ (inside_then _ _ _ _ _ (inside_then _ _ _ _ _ c.in_ok-make.ensures.inside c.in_ok-make-2.ensures.inside) c.in_ok-make-3.ensures.inside) c.in_err-make-4.ensures.inside)

pub returns-in_err-make-5-clause-inside : goal.returns-in_err-make-5-clause-inside
returns-in_err-make-5-clause-inside g c =
    let told = err_from_is_err_and c.from_residual-in_err-make-5.result c.from_residual-in_err-make-5.ensures.1 in
    refused_as _ _ c.in_err-make-5.field-0.0 _ _ told.1 (inside_then _ _ _ _ _ (inside_then _ _ _ _ _ (inside_then _ _ _ _ _ (inside_then _ _ _ _ _ c.in_ok-make.ensures.inside c.in_ok-make-2.ensures.inside) c.in_ok-make-3.ensures.inside) c.in_ok-make-4.ensures.inside) c.in_err-make-5.ensures.inside)

pub returns-clause-inside : goal.returns-clause-inside
returns-clause-inside g c = inside_then _ _ _ _ _ (inside_then _ _ _ _ _ (inside_then _ _ _ _ _ (inside_then _ _ _ _ _ (inside_then _ _ _ _ _ c.in_ok-make.ensures.inside c.in_ok-make-2.ensures.inside) c.in_ok-make-3.ensures.inside) c.in_ok-make-4.ensures.inside) c.in_ok-make-5.ensures.inside) c.make-6.ensures.inside
