use Rattle.std.proofs.Common.{◌≡◌, ◌+◌, ◌++◌, drop}
use Rattle.page_overview.specs.Pages.{numbered}
use Rattle.page_overview.proofs.page.day_lines.Given as goal

-- the days so far, and the number of the next one
abbrev pub invariant-loop-of_day : goal.invariant-loop-of_day
invariant-loop-of_day l = (l.lines.items ++ numbered l.day (drop l.of_day-index l.units) ≡ numbered 1 l.units) × (l.day ≡ l.of_day-index + 1)
