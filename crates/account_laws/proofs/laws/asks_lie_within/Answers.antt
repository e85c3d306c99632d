use Rattle.account_laws.proofs.AsksLieWithin as proof
use Rattle.account_laws.proofs.laws.asks_lie_within.Goals as goal

pub returns : goal.returns
returns c = proof.asks_lie_within
