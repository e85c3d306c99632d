use Rattle.page_pages.specs.Frames.{card}
use Rattle.page_pages.proofs.frame.put_card.Goals as goal

pub returns : goal.returns
unfolding card
returns c = c.put_all.ensures
