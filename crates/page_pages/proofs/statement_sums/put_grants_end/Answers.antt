use Rattle.page_pages.specs.StatementSums.{grants_end}
use Rattle.page_pages.proofs.statement_sums.put_grants_end.Goals as goal

pub returns : goal.returns
unfolding grants_end
returns c = c.put_all.ensures
