use Rattle.std.proofs.Common.{◌≡◌, ◌++◌, take, flat_map}
use Rattle.page_pages.specs.Waiting.{job_row}
use Rattle.page_pages.proofs.waiting.put_jobs.Given as goal

-- the jobs so far
abbrev pub invariant-loop-job : goal.invariant-loop-job
invariant-loop-job l = l.out.items ≡ l.fn.out.items ++ flat_map (job_row l.account l.terms) (take l.job-index l.jobs)
