use Rattle.std.proofs.Common.{rules, tests}
use Rattle.std.proofs.lemmas.Iterator.Search.{any_from_yields_List}
use Rattle.std.proofs.lemmas.Iterator.Splits.{YieldsList-from_slice_split}
use Rattle.serve_web.specs.Hosts.{is_at}
use Rattle.serve_web.proofs.host.is_named.Goals as goal

pub returns : goal.returns
returns c =
    any_from_yields_List (λ name. is_at name c.args.host.now) _ _ _ c.any.ensures.ran
    (YieldsList-from_slice_split _ _ c.args.names.now c.split.ensures.rest c.split.ensures.done c.split.ensures.closure (λ x r q k. search (rules, tests))) (λ x b q k. search (rules, tests))
