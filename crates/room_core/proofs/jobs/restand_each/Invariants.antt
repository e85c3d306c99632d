use Rattle.std.proofs.Common.{◌≡◌, ◌++◌, map, take, drop}
use Rattle.room_core.specs.ProofRestanding.{restood_job}
use Rattle.room_core.proofs.jobs.restand_each.Given as goal

abbrev pub invariant-loop-job : goal.invariant-loop-job
invariant-loop-job l = l.jobs ≡ map (restood_job l.number l.standing) (take l.job-index l.fn.jobs) ++ drop l.job-index l.fn.jobs
