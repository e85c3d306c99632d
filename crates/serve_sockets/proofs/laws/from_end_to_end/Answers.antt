use Rattle.serve_peers.proofs.Finding.{lasts_by}
use Rattle.serve_sockets.proofs.WholeRuns.{from_end_to_end}
use Rattle.serve_sockets.proofs.laws.from_end_to_end.Goals as goal

pub returns : goal.returns
returns g c = from_end_to_end g.S.Store (lasts_by g.S.Store g.met.S.Store.settled g.met.S.Store.stays)
