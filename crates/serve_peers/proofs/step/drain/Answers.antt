use Rattle.std.proofs.Common.{[]}
use Rattle.std.proofs.KnownBytes.{Consumes-nil}
use Rattle.serve_peers.proofs.Ends.{read_more}
use Rattle.serve_peers.proofs.step.drain.Goals as goal

pub loop-init : goal.loop-init
loop-init g c = ([], Consumes-nil _)

pub loop-preserved : goal.loop-preserved
loop-preserved g c = read_more _ _ _ _ _ c.loop.invariant c.read.ensures.bytes
