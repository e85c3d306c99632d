use Rattle.account_laws.proofs.HandedByLeave as proof
use Rattle.account_laws.proofs.printing.handed_by_leave.Goals as goal

pub returns : goal.returns
returns c = proof.handed_by_leave
