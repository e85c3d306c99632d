use Rattle.account_replies.proofs.Lengths.{length-conflict_number}
use Rattle.account_replies.proofs.station_line.conflict_number.Goals as goal

pub returns-clause-short : goal.returns-clause-short
returns-clause-short c = length-conflict_number c.args.held c.ranges.held.fits
