use Rattle.page_pages.specs.Statements.{of_year}
use Rattle.page_pages.proofs.statement.put_of_year.Goals as goal

pub returns : goal.returns
unfolding of_year
returns c = c.put_all.ensures
