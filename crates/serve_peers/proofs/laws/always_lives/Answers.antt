use Rattle.serve_peers.proofs.Finding.{always_lives}
use Rattle.serve_peers.proofs.laws.always_lives.Goals as goal

pub returns : goal.returns
returns g c = always_lives g.S.Store
