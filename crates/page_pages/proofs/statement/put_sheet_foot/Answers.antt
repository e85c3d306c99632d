use Rattle.page_pages.specs.Statements.{sheet_foot}
use Rattle.page_pages.proofs.statement.put_sheet_foot.Goals as goal

pub returns : goal.returns
unfolding sheet_foot
returns c = c.put_all.ensures
