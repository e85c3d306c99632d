use Rattle.page_pages.specs.StatementSums.{grants_start}
use Rattle.page_pages.proofs.statement_sums.put_grants_start.Goals as goal

pub returns : goal.returns
unfolding grants_start
returns c = c.put_all.ensures
