use Rattle.page_pages.specs.Begun.{begun_columns}
use Rattle.page_pages.proofs.begun.put_begun_columns.Goals as goal

pub returns : goal.returns
unfolding begun_columns
returns c = c.put_all.ensures
