use Rattle.page_pages.specs.StatementSums.{sums_now}
use Rattle.page_pages.proofs.statement_sums.put_sums_now.Goals as goal

pub returns : goal.returns
unfolding sums_now
returns c = c.put_all.ensures
