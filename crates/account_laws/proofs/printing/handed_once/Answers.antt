use Rattle.account_laws.proofs.HandedOnce as proof
use Rattle.account_laws.proofs.HandedOnce.{settled_once}
use Rattle.account_laws.proofs.printing.handed_once.Goals as goal

pub returns : goal.returns
returns c = record { out = proof.handed_once; settled = settled_once }
