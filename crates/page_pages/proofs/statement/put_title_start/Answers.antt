use Rattle.page_pages.specs.Statements.{title_start}
use Rattle.page_pages.proofs.statement.put_title_start.Goals as goal

pub returns : goal.returns
unfolding title_start
returns c = c.put_all.ensures
