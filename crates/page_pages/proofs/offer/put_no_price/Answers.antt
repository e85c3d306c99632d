use Rattle.page_pages.specs.Offers.{no_price}
use Rattle.page_pages.proofs.offer.put_no_price.Goals as goal

pub returns : goal.returns
unfolding no_price
returns c = c.put_all.ensures
