use Rattle.std.proofs.lemmas.Result.{err_from_is_err_and}
use Rattle.rows_tables.proofs.Savepoints.{inside_then, refused_as}
use Rattle.rows_statements.proofs.device_changes.switch.Goals as goal

pub returns-in_err-set_rate-clause-inside : goal.returns-in_err-set_rate-clause-inside
returns-in_err-set_rate-clause-inside g c =
    let told = err_from_is_err_and c.from_residual-in_err-set_rate.result c.from_residual-in_err-set_rate.ensures.1 in
    refused_as _ _ c.in_err-set_rate.field-0.0 _ _ told.1 (inside_then _ _ _ _ _ c.in_ok-set_device.ensures.inside c.in_err-set_rate.ensures.inside)

pub returns-in_ok-set_rate-clause-inside : goal.returns-in_ok-set_rate-clause-inside
returns-in_ok-set_rate-clause-inside g c = inside_then _ _ _ _ _ c.in_ok-set_device.ensures.inside c.in_ok-set_rate.ensures.inside
