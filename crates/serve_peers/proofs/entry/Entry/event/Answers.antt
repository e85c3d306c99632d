use Rattle.std.proofs.Common.{refl, sym}
use Rattle.serve_peers.proofs.entry.Entry.event.Goals as goal

pub returns-in-Message-clause-same : goal.returns-in-Message-clause-same
returns-in-Message-clause-same c = rw (c.in-Message.is, sym c.as_slice.ensures) refl
