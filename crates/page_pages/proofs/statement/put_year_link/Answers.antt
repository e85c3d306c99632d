use Rattle.page_pages.specs.Statements.{year_link}
use Rattle.page_pages.proofs.statement.put_year_link.Goals as goal

pub returns : goal.returns
unfolding year_link
returns c = c.put_all.ensures
