use Rattle.std.proofs.Common.{ap, refl}
use Rattle.http_server.specs.Connection.{history}
use Rattle.http_server.specs.declared.connection.Connection.{Connection}
use Rattle.serve_peers.proofs.HttpMoves as moves
use Rattle.serve_peers.proofs.http_peer.HttpPeer.step.Goals as goal

pub returns-then-is_done-clause-later : goal.returns-then-is_done-clause-later
returns-then-is_done-clause-later g c = moves.still _ _ _ (ap (λ (connection : Connection). history connection) c.finish.ensures.connection)

pub returns-then-wants_write-clause-later : goal.returns-then-wants_write-clause-later
returns-then-wants_write-clause-later g c = moves.writes _ _ _ _ _ c.send.ensures.sends

pub returns-then-not-turn-clause-later : goal.returns-then-not-turn-clause-later
returns-then-not-turn-clause-later g c = moves.still _ _ _ refl

pub returns-then-not-turn-2-clause-later : goal.returns-then-not-turn-2-clause-later
returns-then-not-turn-2-clause-later g c = moves.still _ _ _ refl

pub returns-then-self-clause-later : goal.returns-then-self-clause-later
returns-then-self-clause-later g c = moves.still _ _ _ refl
