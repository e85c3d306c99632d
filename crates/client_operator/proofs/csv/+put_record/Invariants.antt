use Rattle.std.proofs.Common.{length}
use Rattle.client_operator.proofs.csv.+put_record.Given as goal

abbrev pub decreases-put_record : goal.decreases-put_record
decreases-put_record l = length l.fields.now
