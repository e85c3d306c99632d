use Rattle.page_pages.specs.StatementSums.{sums_before}
use Rattle.page_pages.proofs.statement_sums.put_sums_before.Goals as goal

pub returns : goal.returns
unfolding sums_before
returns c = c.put_all.ensures
