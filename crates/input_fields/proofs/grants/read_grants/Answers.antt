use Rattle.std.proofs.Common.{ap, Err}
use Rattle.input_fields.proofs.FaultLemmas.{is_too_large-bytes, many_from}
use Rattle.input_fields.proofs.grants.read_grants.Goals as goal

-- too many bytes
pub returns-in_err-bytes-clause-many : goal.returns-in_err-bytes-clause-many
returns-in_err-bytes-clause-many g c = λ many.
    let left = c.in_err-bytes.ensures.long (ap (λ fault. Err fault) (many_from c.in_err-bytes.field-0.0 c.from_residual.result c.from_residual.ensures.1 many)) in
    (left.0, left.1, is_too_large-bytes left.0 left.2)
