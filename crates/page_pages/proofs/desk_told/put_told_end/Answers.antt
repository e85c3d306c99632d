use Rattle.page_pages.specs.DeskTolds.{told_end}
use Rattle.page_pages.proofs.desk_told.put_told_end.Goals as goal

pub returns : goal.returns
unfolding told_end
returns c = c.put_all.ensures
