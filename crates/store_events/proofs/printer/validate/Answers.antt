use Rattle.std.proofs.Common.{Err, ap, arith}
use Rattle.std.proofs.lemmas.Result.{err_from_is_err_and}
use Rattle.store_events.proofs.ServingLemmas.{read_failed_as}
use Rattle.store_events.proofs.printer.validate.Goals as goal

pub returns-in_err-unfinished-clause-served : goal.returns-in_err-unfinished-clause-served
returns-in_err-unfinished-clause-served g c is_open =
    let told = err_from_is_err_and c.from_residual.result c.from_residual.ensures.1 in
    read_failed_as _ _ _ _ _ g.S.Store _ _ c.from_residual.result told.0 _ told.1 told.2 c.in_err-unfinished.ensures.reads
    (λ clean has is readable. let more = c.in_err-unfinished.ensures.damaged clean has (ap (λ e. Err e) is) in omega (arith, more, readable))
