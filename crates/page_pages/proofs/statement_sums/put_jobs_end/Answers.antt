use Rattle.page_pages.specs.StatementSums.{jobs_end}
use Rattle.page_pages.proofs.statement_sums.put_jobs_end.Goals as goal

pub returns : goal.returns
unfolding jobs_end
returns c = c.put_all.ensures
