use Rattle.page_pages.specs.Balances.{bar}
use Rattle.page_pages.proofs.balance.put_bar.Goals as goal

pub returns : goal.returns
unfolding bar
returns c = c.put_all.ensures
