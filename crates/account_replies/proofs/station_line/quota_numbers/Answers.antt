use Rattle.account_replies.proofs.Lengths.{length-quota_numbers}
use Rattle.account_replies.proofs.station_line.quota_numbers.Goals as goal

pub returns-clause-short : goal.returns-clause-short
returns-clause-short c = length-quota_numbers c.args.need c.args.left c.ranges.need.fits c.ranges.left
