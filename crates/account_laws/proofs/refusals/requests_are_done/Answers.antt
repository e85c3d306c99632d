use Rattle.account_laws.proofs.DoneWhere as proof
use Rattle.account_laws.proofs.refusals.requests_are_done.Goals as goal

pub returns : goal.returns
returns c = proof.done_exactly_where
