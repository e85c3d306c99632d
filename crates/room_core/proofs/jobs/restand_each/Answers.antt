use Rattle.std.proofs.Common.{arith}
use Rattle.std.proofs.lemmas.Grind.{common_steps}
use Rattle.std.proofs.lemmas.List.Edits.{map_over_more}
use Rattle.room_core.specs.ProofRestanding.{restood_job}
use Rattle.room_core.proofs.jobs.restand_each.Goals as goal

pub loop-job-preserved : goal.loop-job-preserved
loop-job-preserved c = grind (arith, common_steps, map_over_more (restood_job c.args.number c.args.standing.now))
