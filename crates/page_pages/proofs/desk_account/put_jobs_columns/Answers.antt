use Rattle.page_pages.specs.DeskAccounts.{jobs_columns}
use Rattle.page_pages.proofs.desk_account.put_jobs_columns.Goals as goal

pub returns : goal.returns
unfolding jobs_columns
returns c = c.put_all.ensures
