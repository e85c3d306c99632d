use Rattle.std.proofs.Common.{refl}
use Rattle.serve_peers.proofs.Journaling.{settled_then}
use Rattle.serve_peers.proofs.served.Served.settle.Goals as goal

pub returns-clause-settles : goal.returns-clause-settles
returns-clause-settles g c = λ shared. settled_then g.S.Store _ _ _ c.settle_round.ensures c.log_from_space.ensures.rounds c.log_from_space.ensures.under_way refl
