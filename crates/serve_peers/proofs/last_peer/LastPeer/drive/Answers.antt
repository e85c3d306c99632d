use Rattle.serve_peers.proofs.LastSteps.{begun, then}
use Rattle.serve_peers.proofs.last_peer.LastPeer.drive.Goals as goal

pub loop-init : goal.loop-init
loop-init g c = begun _ _

pub returns-in-Some-clause-says : goal.returns-in-Some-clause-says
returns-in-Some-clause-says g c = then _ _ _ _ _ _ _ _ c.loop.invariant c.in-Some.ensures.sends

pub loop-preserved : goal.loop-preserved
loop-preserved g c = then _ _ _ _ _ _ _ _ c.loop.invariant c.step.ensures.sends
