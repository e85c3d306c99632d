use Rattle.page_pages.specs.Statements.{of_month}
use Rattle.page_pages.proofs.statement.put_of_month.Goals as goal

pub returns : goal.returns
unfolding of_month
returns c = c.put_all.ensures
