use Rattle.page_pages.specs.Frames.{foot}
use Rattle.page_pages.proofs.frame.put_foot.Goals as goal

pub returns : goal.returns
unfolding foot
returns c = c.put_all.ensures
