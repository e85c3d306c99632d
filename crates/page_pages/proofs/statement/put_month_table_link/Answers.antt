use Rattle.page_pages.specs.Statements.{month_table_link}
use Rattle.page_pages.proofs.statement.put_month_table_link.Goals as goal

pub returns : goal.returns
unfolding month_table_link
returns c = c.put_all.ensures
