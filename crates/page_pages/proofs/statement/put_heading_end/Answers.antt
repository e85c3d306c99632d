use Rattle.page_pages.specs.Statements.{heading_end}
use Rattle.page_pages.proofs.statement.put_heading_end.Goals as goal

pub returns : goal.returns
unfolding heading_end
returns c = c.put_all.ensures
