use Rattle.page_pages.specs.Statements.{heading_start}
use Rattle.page_pages.proofs.statement.put_heading_start.Goals as goal

pub returns : goal.returns
unfolding heading_start
returns c = c.put_all.ensures
