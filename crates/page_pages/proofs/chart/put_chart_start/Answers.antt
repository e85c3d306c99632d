use Rattle.page_pages.specs.Charts.{chart_start}
use Rattle.page_pages.proofs.chart.put_chart_start.Goals as goal

pub returns : goal.returns
unfolding chart_start
returns c = c.put_all.ensures
