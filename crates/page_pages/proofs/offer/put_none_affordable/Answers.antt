use Rattle.page_pages.specs.Offers.{none_affordable}
use Rattle.page_pages.proofs.offer.put_none_affordable.Goals as goal

pub returns : goal.returns
unfolding none_affordable
returns c = c.put_all.ensures
