use Rattle.page_pages.specs.Offers.{two_prices}
use Rattle.page_pages.proofs.offer.put_two_prices.Goals as goal

pub returns : goal.returns
unfolding two_prices
returns c = c.put_all.ensures
