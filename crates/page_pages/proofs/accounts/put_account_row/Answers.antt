use Rattle.page_pages.specs.Accounts.{account_row}
use Rattle.page_pages.proofs.accounts.put_account_row.Goals as goal

pub returns : goal.returns
unfolding account_row
returns c = c.put_all.ensures
