use Rattle.page_pages.specs.Frames.{remark}
use Rattle.page_pages.proofs.frame.put_remark.Goals as goal

pub returns : goal.returns
unfolding remark
returns c = c.put_all.ensures
