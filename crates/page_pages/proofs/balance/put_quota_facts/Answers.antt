use Rattle.page_pages.specs.Balances.{quota_facts}
use Rattle.page_pages.proofs.balance.put_quota_facts.Goals as goal

pub returns : goal.returns
unfolding quota_facts
returns c = c.put_all.ensures
