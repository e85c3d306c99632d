use Rattle.page_pages.specs.Frames.{reload}
use Rattle.page_pages.proofs.frame.put_reload.Goals as goal

pub returns : goal.returns
unfolding reload
returns c = c.put_all.ensures
