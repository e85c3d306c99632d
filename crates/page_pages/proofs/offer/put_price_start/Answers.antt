use Rattle.page_pages.specs.Offers.{price_start}
use Rattle.page_pages.proofs.offer.put_price_start.Goals as goal

pub returns : goal.returns
unfolding price_start
returns c = c.put_all.ensures
