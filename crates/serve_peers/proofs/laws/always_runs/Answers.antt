use Rattle.serve_peers.proofs.Running.{runs}
use Rattle.serve_peers.proofs.laws.always_runs.Goals as goal

pub returns : goal.returns
returns g c = runs g.S.Store
