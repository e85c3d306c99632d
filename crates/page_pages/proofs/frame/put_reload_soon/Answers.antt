use Rattle.page_pages.specs.Frames.{reload_soon}
use Rattle.page_pages.proofs.frame.put_reload_soon.Goals as goal

pub returns : goal.returns
unfolding reload_soon
returns c = c.put_all.ensures
