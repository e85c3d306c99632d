use Rattle.page_pages.specs.Longest.{longest_row}
use Rattle.page_pages.proofs.longest.put_longest_row.Goals as goal

pub returns : goal.returns
unfolding longest_row
returns c = c.put_all.ensures
