use Rattle.page_pages.specs.Ended.{ended_counts}
use Rattle.page_pages.proofs.ended.put_ended_counts.Goals as goal

pub returns : goal.returns
unfolding ended_counts
returns c = c.put_all.ensures
