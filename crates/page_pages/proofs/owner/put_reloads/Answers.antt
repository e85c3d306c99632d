use Rattle.page_pages.specs.Owners.{reloads}
use Rattle.page_pages.proofs.owner.put_reloads.Goals as goal

pub returns : goal.returns
unfolding reloads
returns c = c.put_all.ensures
