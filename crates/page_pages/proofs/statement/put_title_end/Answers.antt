use Rattle.page_pages.specs.Statements.{title_end}
use Rattle.page_pages.proofs.statement.put_title_end.Goals as goal

pub returns : goal.returns
unfolding title_end
returns c = c.put_all.ensures
