-- What goes out last, to a client that asks nothing more (this project's own).
use Rattle.std.specs.Prelude.{◌≡◌, ℕ, List, [], ◌∷◌, ◌++◌}
use Rattle.input_http.specs.Texts.{refusal_text}
use Rattle.input_http.specs.declared.refusal.Refusal.TheVariants.{NoSpace}
use Rattle.serve_peers.specs.Journals.{Told}
use Rattle.serve_peers.specs.LastPeers.{left_of}
use Rattle.serve_peers.specs.LastTexts.{last_text}
use Rattle.serve_peers.specs.declared.last_peer.LastPeer.{LastPeer}
use Rattle.serve_sockets.specs.Places.{StandAt}

-- what is still to go is the end of what tells what stands in the journal at this one place
pub record TellsLast (peer : LastPeer) (places : List ℕ) (journal : List Told) : Type 0 where
  pub told : Told
  pub stands : StandAt 0 places (told ∷ []) journal
  pub went : List ℕ
  pub text : last_text told.0 told.1 ≡ went ++ left_of peer

-- a client was refused for want of space, and nothing stands in the journal of its request; what
-- is still to go is the end of what tells it
pub record TellsNoSpace (peer : LastPeer) (places : List ℕ) : Type 0 where
  pub nowhere : places ≡ []
  pub went : List ℕ
  pub text : refusal_text NoSpace ≡ went ++ left_of peer
