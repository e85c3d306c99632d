use Rattle.account_replies.proofs.JobRows.{job_rows}
use Rattle.account_replies.proofs.Picks.{group_picked}
use Rattle.account_replies.proofs.job.append_job.Goals as goal

pub returns-clause-appended : goal.returns-clause-appended
returns-clause-appended c = group_picked _ _ _ _ _ _ _ _ job_rows c.flags.ensures c.in_ok-begin_group.ensures.appended c.in_ok-put_job_attributes.ensures.appended
