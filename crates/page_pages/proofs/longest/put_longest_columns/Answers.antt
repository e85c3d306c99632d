use Rattle.page_pages.specs.Longest.{longest_columns}
use Rattle.page_pages.proofs.longest.put_longest_columns.Goals as goal

pub returns : goal.returns
unfolding longest_columns
returns c = c.put_all.ensures
