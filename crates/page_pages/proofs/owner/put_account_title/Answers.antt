use Rattle.page_pages.specs.Owners.{account_title}
use Rattle.page_pages.proofs.owner.put_account_title.Goals as goal

pub returns : goal.returns
unfolding account_title
returns c = c.put_all.ensures
