use Rattle.std.proofs.Common.{◌≡◌, ◌++◌, take, flat_map}
use Rattle.page_pages.specs.Charts.{bar_item}
use Rattle.page_pages.proofs.chart.put_bars.Given as goal

-- the days so far
abbrev pub invariant-loop-day : goal.invariant-loop-day
invariant-loop-day l = l.out.items ≡ l.fn.out.items ++ flat_map (bar_item l.fn.highest) (take l.day-index l.days)
