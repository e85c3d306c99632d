use Rattle.page_pages.specs.DeskGrants.{given_back_row}
use Rattle.page_pages.proofs.desk_grants.put_given_back_row.Goals as goal

pub returns : goal.returns
unfolding given_back_row
returns c = c.put_all.ensures
