use Rattle.std.proofs.Common.{◌≡◌, ◌++◌, take, flat_map}
use Rattle.page_pages.specs.StatementSums.{job_if_then}
use Rattle.page_pages.proofs.statement_sums.put_jobs_then.Given as goal

-- the jobs so far
abbrev pub invariant-loop-job : goal.invariant-loop-job
invariant-loop-job l = l.out.items ≡ l.fn.out.items ++ flat_map (job_if_then l.fn.first l.fn.last) (take l.job-index l.jobs)
