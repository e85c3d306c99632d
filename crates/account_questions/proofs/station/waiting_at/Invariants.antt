use Rattle.std.proofs.Common.{◌≡◌, ◌++◌, filter}
use Rattle.account_questions.specs.Stations.{is_for}
use Rattle.account_questions.proofs.station.waiting_at.Given as goal

-- what was kept of the jobs so far
abbrev pub invariant-loop-job : goal.invariant-loop-job
invariant-loop-job l = l.items.items ++ filter (is_for l.fn.device) l.job-iterator.rest.items ≡ filter (is_for l.fn.device) l.fn.jobs
