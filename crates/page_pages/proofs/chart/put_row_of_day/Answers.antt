use Rattle.page_pages.specs.Charts.{row_of_day}
use Rattle.page_pages.proofs.chart.put_row_of_day.Goals as goal

pub returns : goal.returns
unfolding row_of_day
returns c = c.put_all.ensures
