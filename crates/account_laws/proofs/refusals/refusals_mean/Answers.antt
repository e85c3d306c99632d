use Rattle.account_laws.proofs.RefusalMeanings as proof
use Rattle.account_laws.proofs.RefusalMeanings.{refused_for_the_first}
use Rattle.account_laws.proofs.refusals.refusals_mean.Goals as goal

pub returns : goal.returns
returns c = record { mean = proof.refusals_mean; first = refused_for_the_first }
