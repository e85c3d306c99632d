use Rattle.page_pages.specs.Offers.{one_price}
use Rattle.page_pages.proofs.offer.put_one_price.Goals as goal

pub returns : goal.returns
unfolding one_price
returns c = c.put_all.ensures
