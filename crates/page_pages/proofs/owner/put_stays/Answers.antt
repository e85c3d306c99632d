use Rattle.page_pages.specs.Owners.{stays}
use Rattle.page_pages.proofs.owner.put_stays.Goals as goal

pub returns : goal.returns
unfolding stays
returns c = c.put_all.ensures
