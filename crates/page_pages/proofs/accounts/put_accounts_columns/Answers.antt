use Rattle.page_pages.specs.Accounts.{accounts_columns}
use Rattle.page_pages.proofs.accounts.put_accounts_columns.Goals as goal

pub returns : goal.returns
unfolding accounts_columns
returns c = c.put_all.ensures
