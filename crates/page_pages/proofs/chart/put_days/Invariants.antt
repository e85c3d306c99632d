use Rattle.std.proofs.Common.{◌≡◌, ◌++◌, take, flat_map}
use Rattle.page_pages.specs.Charts.{day_item}
use Rattle.page_pages.proofs.chart.put_days.Given as goal

-- the days so far
abbrev pub invariant-loop-day : goal.invariant-loop-day
invariant-loop-day l = l.out.items ≡ l.fn.out.items ++ flat_map day_item (take l.day-index l.days)
