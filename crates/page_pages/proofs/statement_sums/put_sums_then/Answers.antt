use Rattle.page_pages.specs.StatementSums.{sums_then}
use Rattle.page_pages.proofs.statement_sums.put_sums_then.Goals as goal

pub returns : goal.returns
unfolding sums_then
returns c = c.put_all.ensures
