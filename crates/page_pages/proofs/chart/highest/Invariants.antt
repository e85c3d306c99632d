use Rattle.std.proofs.Common.{◌≡◌, take}
use Rattle.page_pages.specs.Charts.{highest}
use Rattle.page_pages.proofs.chart.highest.Given as goal

-- the most of the days so far
abbrev pub invariant-loop-day : goal.invariant-loop-day
invariant-loop-day l = l.most ≡ highest (take l.day-index l.days)
