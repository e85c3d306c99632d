use Rattle.std.proofs.Common.{arith}
use Rattle.account_replies.specs.Places.{plain_place}
use Rattle.account_replies.proofs.Picks.{one_more_put}
use Rattle.account_replies.proofs.job.put_job_attributes.Goals as goal

pub loop-index-preserved : goal.loop-index-preserved
loop-index-preserved c =
    one_more_put (plain_place c.args.at.now) c.args.job.now c.args.flags.now c.args.attributes.now c.loop-index.index _ _ _ _ _ (omega arith) (omega arith) c.loop-index.invariant c.in_ok-put_where_set.ensures.appended
