use Rattle.serve_peers.proofs.Finding.{always_found, lasts_by}
use Rattle.serve_peers.proofs.laws.always_found.Goals as goal

pub returns : goal.returns
returns g c = always_found g.S.Store (lasts_by g.S.Store g.met.S.Store.settled g.met.S.Store.stays)
