use Rattle.std.proofs.Common.{◌≡◌, ◌-◌, take}
use Rattle.std.specs.List.{sum_by}
use Rattle.page_pages.specs.Movements.{charged_since}
use Rattle.page_pages.proofs.movement.charged_before.Given as goal

-- less what the jobs so far were charged
abbrev pub invariant-loop-job : goal.invariant-loop-job
invariant-loop-job l = l.rest ≡ l.fn.charged - sum_by (charged_since l.fn.month) (take l.job-index l.jobs)
