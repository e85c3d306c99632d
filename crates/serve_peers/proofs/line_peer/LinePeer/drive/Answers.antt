use Rattle.std.proofs.Common.{inl, inr, refl}
use Rattle.std.proofs.KnownBytes.{Appends-nil}
use Rattle.std.proofs.lemmas.Option.{same_Some}
use Rattle.serve_peers.proofs.LineCalls.{kept, on, stays}
use Rattle.serve_peers.specs.ProofServices as services
use Rattle.serve_peers.proofs.Journaling as journaling
use Rattle.serve_peers.proofs.line_peer.LinePeer.drive.Goals as goal

pub returns-then-self-clause-takes : goal.returns-then-self-clause-takes
returns-then-self-clause-takes g c = inl (c.drain.ensures.drops.0, c.if-self.true, (c.drain.ensures.drops.1, Appends-nil _), refl, refl)

pub loop-init : goal.loop-init
loop-init g c = record { takes = stays g.S.Store _ _ _; continues = services.stays g.S.Store _ }

pub returns-in-Some-clause-takes : goal.returns-in-Some-clause-takes
returns-in-Some-clause-takes g c =
    let is = on g.S.Store _ _ _ _ _ _ _ _ _ _ c.loop.invariant.takes c.in-Some.ensures.takes in
    inr (is.0, is.1, λ goes. is.2 (λ same. goes (same_Some _ _ same)))

pub returns-in-Some-clause-continues : goal.returns-in-Some-clause-continues
returns-in-Some-clause-continues g c = journaling.then g.S.Store _ _ _ c.loop.invariant.continues c.in-Some.ensures.continues

pub loop-preserved : goal.loop-preserved
loop-preserved g c = record {
  takes = kept g.S.Store _ _ _ _ _ _ _ (λ is. c.in_default.not-Some _ is) (on g.S.Store _ _ _ _ _ _ _ _ _ _ c.loop.invariant.takes c.step.ensures.takes);
  continues = journaling.then g.S.Store _ _ _ c.loop.invariant.continues c.step.ensures.continues;
}

pub returns-clause-takes : goal.returns-clause-takes
returns-clause-takes g c = inr (_, c.loop.invariant.takes, λ goes. refl)
