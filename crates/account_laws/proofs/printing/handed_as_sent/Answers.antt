use Rattle.account_laws.proofs.HandedAtStarts.{handed_at_starts}
use Rattle.account_laws.proofs.HandedByLeave as proof
use Rattle.account_laws.proofs.printing.handed_as_sent.Goals as goal

pub returns : goal.returns
returns c = record { all = proof.handed_as_sent; alone = handed_at_starts }
