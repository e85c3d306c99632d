use Rattle.page_pages.specs.DeskTolds.{told_start}
use Rattle.page_pages.proofs.desk_told.put_told_start.Goals as goal

pub returns : goal.returns
unfolding told_start
returns c = c.put_all.ensures
