use Rattle.page_pages.specs.Frames.{document}
use Rattle.page_pages.proofs.frame.put_document.Goals as goal

pub returns : goal.returns
unfolding document
returns c = c.put_all.ensures
