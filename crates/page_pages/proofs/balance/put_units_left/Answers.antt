use Rattle.page_pages.specs.Balances.{units_left}
use Rattle.page_pages.proofs.balance.put_units_left.Goals as goal

pub returns : goal.returns
unfolding units_left
returns c = c.put_all.ensures
