use Rattle.page_pages.specs.Offers.{cheaper_advice}
use Rattle.page_pages.proofs.offer.put_cheaper_advice.Goals as goal

pub returns : goal.returns
unfolding cheaper_advice
returns c = c.put_all.ensures
