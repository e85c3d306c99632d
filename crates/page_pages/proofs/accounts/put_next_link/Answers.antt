use Rattle.page_pages.specs.Accounts.{next_link}
use Rattle.page_pages.proofs.accounts.put_next_link.Goals as goal

pub returns : goal.returns
unfolding next_link
returns c = c.put_all.ensures
