use Rattle.room_serve.proofs.LifeLemmas.{runs_join}
use Rattle.room_serve.proofs.laws.runs_join.Goals as goal

pub returns : goal.returns
returns c = runs_join
