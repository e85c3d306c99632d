use Rattle.page_pages.specs.Waiting.{release_button}
use Rattle.page_pages.proofs.waiting.put_release_button.Goals as goal

pub returns : goal.returns
unfolding release_button
returns c = c.put_all.ensures
