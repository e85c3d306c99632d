use Rattle.page_pages.specs.Frames.{top}
use Rattle.page_pages.proofs.frame.put_top.Goals as goal

pub returns : goal.returns
unfolding top
returns c = c.put_all.ensures
