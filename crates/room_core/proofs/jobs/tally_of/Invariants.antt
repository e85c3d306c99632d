use Rattle.std.proofs.Common.{◌≡◌, take}
use Rattle.account_state.specs.Tallies.{tally_of}
use Rattle.room_core.proofs.jobs.tally_of.Given as goal

abbrev pub invariant-loop-job : goal.invariant-loop-job
invariant-loop-job l = l.tally ≡ tally_of (take l.job-index l.jobs)
