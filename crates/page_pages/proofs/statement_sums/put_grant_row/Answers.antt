use Rattle.page_pages.specs.StatementSums.{grant_row}
use Rattle.page_pages.proofs.statement_sums.put_grant_row.Goals as goal

pub returns : goal.returns
unfolding grant_row
returns c = c.put_all.ensures
