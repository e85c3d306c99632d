use Rattle.page_pages.specs.DeskGrants.{grants_columns}
use Rattle.page_pages.proofs.desk_grants.put_grants_columns.Goals as goal

pub returns : goal.returns
unfolding grants_columns
returns c = c.put_all.ensures
