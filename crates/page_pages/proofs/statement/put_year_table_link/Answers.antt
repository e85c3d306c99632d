use Rattle.page_pages.specs.Statements.{year_table_link}
use Rattle.page_pages.proofs.statement.put_year_table_link.Goals as goal

pub returns : goal.returns
unfolding year_table_link
returns c = c.put_all.ensures
