use Rattle.std.proofs.Common.{Some, ap, inl, inr, refl, sym, subst, ◌∙◌}
use Rattle.std.proofs.KnownBytes.{Appends-nil}
use Rattle.http_server.proofs.StreamLemmas.{Calls-none, Calls-then}
use Rattle.http_server.specs.Connection.{config_of, history}
use Rattle.http_server.specs.History.{History, Rests}
use Rattle.http_server.specs.declared.state.Config.{Config}
use Rattle.serve_peers.specs.HttpPeers.{connection_of}
use Rattle.serve_peers.proofs.HttpMoves as moves
use Rattle.serve_peers.specs.ProofServices.{stays}
use Rattle.serve_peers.proofs.Journaling.{then}
use Rattle.serve_peers.proofs.http_peer.HttpPeer.drive.Goals as goal

pub returns-then-self-clause-later : goal.returns-then-self-clause-later
returns-then-self-clause-later g c = inl (c.drain.ensures.drops.0, c.if-self.true, (c.drain.ensures.drops.1, Appends-nil _), refl)

pub loop-init : goal.loop-init
loop-init g c = record {
  calls = Calls-none g.V.Service.answers _ _ _ _ refl refl;
  later = moves.still _ _ _ refl;
  continues = stays g.V.Kept.Store _;
  limits = refl;
}

pub returns-then-is_long-clause-later : goal.returns-then-is_long-clause-later
returns-then-is_long-clause-later g c = inr c.loop.invariant.later

pub returns-in-Some-clause-calls : goal.returns-in-Some-clause-calls
returns-in-Some-clause-calls g c =
    let all = Calls-then g.V.Service.answers _ _ _ _ _ _ c.loop.invariant.calls c.answer_requests.ensures.calls in
    (all.0, c.in-Some.ensures.calls ∙ all.1, all.2)

pub returns-in-Some-clause-later : goal.returns-in-Some-clause-later
returns-in-Some-clause-later g c = inr (moves.then _ _ _ _ _ _ (moves.then _ _ _ _ _ _ c.loop.invariant.later (moves.quiet _ _ _ c.answer_requests.ensures.quiet)) c.in-Some.ensures.later)

pub returns-in-Some-clause-continues : goal.returns-in-Some-clause-continues
returns-in-Some-clause-continues g c = then g.V.Kept.Store _ _ _ c.loop.invariant.continues c.answer_requests.ensures.continues

-- the step that could not go on left the connection as it was answered
pub returns-in-Some-clause-rests : goal.returns-in-Some-clause-rests
returns-in-Some-clause-rests g c = λ waits.
    let same = c.in-Some.ensures.waits (ap Some waits) in
    let there = subst (λ (h : History). Rests (config_of c.answer_requests.new.connection) h) (sym same) c.answer_requests.ensures.rests in
    subst (λ (k : Config). Rests k (history (connection_of c.step.new.self))) (sym c.in-Some.ensures.limits) there

pub loop-preserved : goal.loop-preserved
loop-preserved g c =
    let all = Calls-then g.V.Service.answers _ _ _ _ _ _ c.loop.invariant.calls c.answer_requests.ensures.calls in
    record {
      calls = (all.0, c.in_default.ensures.calls ∙ all.1, all.2);
      later = moves.then _ _ _ _ _ _ (moves.then _ _ _ _ _ _ c.loop.invariant.later (moves.quiet _ _ _ c.answer_requests.ensures.quiet)) c.in_default.ensures.later;
      continues = then g.V.Kept.Store _ _ _ c.loop.invariant.continues c.answer_requests.ensures.continues;
      limits = c.in_default.ensures.limits ∙ c.answer_requests.ensures.config ∙ c.loop.invariant.limits;
    }
