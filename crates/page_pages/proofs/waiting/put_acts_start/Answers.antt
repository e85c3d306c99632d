use Rattle.page_pages.specs.Waiting.{acts_start}
use Rattle.page_pages.proofs.waiting.put_acts_start.Goals as goal

pub returns : goal.returns
unfolding acts_start
returns c = c.put_all.ensures
