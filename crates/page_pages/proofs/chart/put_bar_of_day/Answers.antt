use Rattle.page_pages.specs.Charts.{bar_of_day}
use Rattle.page_pages.proofs.chart.put_bar_of_day.Goals as goal

pub returns : goal.returns
unfolding bar_of_day
returns c = c.put_all.ensures
