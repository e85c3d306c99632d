use Rattle.page_pages.specs.Waiting.{waiting_columns}
use Rattle.page_pages.proofs.waiting.put_waiting_columns.Goals as goal

pub returns : goal.returns
unfolding waiting_columns
returns c = c.put_all.ensures
