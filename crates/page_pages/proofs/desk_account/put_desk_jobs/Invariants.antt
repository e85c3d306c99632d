use Rattle.std.proofs.Common.{◌≡◌, ◌++◌, take, flat_map}
use Rattle.page_pages.specs.DeskAccounts.{desk_job}
use Rattle.page_pages.proofs.desk_account.put_desk_jobs.Given as goal

-- the rows so far
abbrev pub invariant-loop-job : goal.invariant-loop-job
invariant-loop-job l = l.out.items ≡ l.fn.out.items ++ flat_map (desk_job l.account) (take l.job-index l.jobs)
