use Rattle.std.proofs.Common.{◌≡◌, take}
use Rattle.std.specs.List.{fold}
use Rattle.page_overview.specs.ProofOldest.{put_longest_line}
use Rattle.page_overview.proofs.oldest.put_longest.Given as goal

-- the jobs so far
abbrev pub invariant-loop-job : goal.invariant-loop-job
invariant-loop-job l = l.lines.items ≡ fold (put_longest_line l.account) l.fn.lines.items (take l.job-index l.jobs)
