use Rattle.page_pages.specs.DeskTolds.{told_line}
use Rattle.page_pages.proofs.desk_told.put_told_line.Goals as goal

pub returns : goal.returns
unfolding told_line
returns c = c.put_all.ensures
