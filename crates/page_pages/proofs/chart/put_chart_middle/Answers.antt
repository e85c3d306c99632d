use Rattle.page_pages.specs.Charts.{chart_middle}
use Rattle.page_pages.proofs.chart.put_chart_middle.Goals as goal

pub returns : goal.returns
unfolding chart_middle
returns c = c.put_all.ensures
