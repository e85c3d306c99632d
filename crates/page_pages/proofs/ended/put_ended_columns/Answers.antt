use Rattle.page_pages.specs.Ended.{ended_columns}
use Rattle.page_pages.proofs.ended.put_ended_columns.Goals as goal

pub returns : goal.returns
unfolding ended_columns
returns c = c.put_all.ensures
