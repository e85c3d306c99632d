use Rattle.std.proofs.Common.{length}
use Rattle.client_owner.proofs.head.+length_told.Given as goal

abbrev pub decreases-length_told : goal.decreases-length_told
decreases-length_told l = length l.headers.now
