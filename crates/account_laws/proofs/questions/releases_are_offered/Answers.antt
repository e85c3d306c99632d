use Rattle.account_laws.proofs.OfferedReleases as proof
use Rattle.account_laws.proofs.questions.releases_are_offered.Goals as goal

pub returns : goal.returns
returns c = proof.releases_are_offered
