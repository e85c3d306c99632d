use Rattle.page_pages.specs.DeskAccounts.{job_end}
use Rattle.page_pages.proofs.desk_account.put_job_end.Goals as goal

pub returns : goal.returns
unfolding job_end
returns c = c.put_all.ensures
