use Rattle.page_pages.specs.Ended.{ended_name}
use Rattle.page_pages.proofs.ended.put_ended_name.Goals as goal

pub returns : goal.returns
unfolding ended_name
returns c = c.put_all.ensures
