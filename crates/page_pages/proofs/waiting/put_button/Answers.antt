use Rattle.page_pages.specs.Waiting.{button}
use Rattle.page_pages.proofs.waiting.put_button.Goals as goal

pub returns : goal.returns
unfolding button
returns c = c.put_all.ensures
