use Rattle.page_pages.specs.Begun.{begun_row}
use Rattle.page_pages.proofs.begun.put_begun_row.Goals as goal

pub returns : goal.returns
unfolding begun_row
returns c = c.put_all.ensures
