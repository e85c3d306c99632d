use Rattle.page_pages.specs.Statements.{back_link}
use Rattle.page_pages.proofs.statement.put_back_link.Goals as goal

pub returns : goal.returns
unfolding back_link
returns c = c.put_all.ensures
