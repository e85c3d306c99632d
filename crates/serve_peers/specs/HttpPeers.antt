-- What a turn of a peer that speaks HTTP keeps, and what it comes to (all this project's own).
use Rattle.std.specs.Prelude.{◌≡◌, ◌⊎◌, ◌<◌, ◌≤◌, ◌+◌, ◌*◌, ℕ, Bool, List, [], ◌++◌, length, max, min, IsTrue}
use Rattle.input_http.specs.Limits.{longest_body, longest_head}
use Rattle.http.specs.declared.request.Request.{Request}
use Rattle.http_server.specs.Connection.{config_of, history}
use Rattle.http_server.specs.Exchange.{Call, Calls}
use Rattle.http_server.specs.History.{History, Rests}
use Rattle.http_server.specs.declared.connection.Connection.{Connection}
use Rattle.http_server.specs.declared.response.Response.{Response}
use Rattle.sqlite_trees.specs.declared.store.Store.{Ghosts}
use Rattle.serve_peers.specs.Answers.{Answers}
use Rattle.serve_peers.specs.Streams.{Carry, Ends}
use Rattle.serve_peers.specs.declared.served.Served.{Served}
use Rattle.serve_peers.specs.declared.http_peer.HttpPeer.{HttpPeer}
use Rattle.serve_peers.specs.declared.patience.Patience.{Patience}

abbrev pub connection_of : HttpPeer → Connection
connection_of peer = peer.connection

abbrev pub patience_of : HttpPeer → Patience
patience_of peer = peer.progress.patience

-- how many bytes came since the last answer
abbrev pub came_of : HttpPeer → ℕ
came_of peer = peer.load.coming

-- A buffer that had to hold so many bytes takes these: it grows to twice as many, but no further than
-- to the longest request, unless it has to.
abbrev pub buffer_for : ℕ → ℕ
buffer_for most = max (min (most * 2) (longest_head + longest_body)) most

-- how many bytes its buffer of requests takes
abbrev pub input_buffer : HttpPeer → ℕ
input_buffer peer = buffer_for peer.load.most

-- an answer waits to go
abbrev pub HasAnswer : HttpPeer → Type 0
HasAnswer peer = 0 < length (history (connection_of peer)).pending

-- it has to send something next: no answer waits to go, and no more came than a head may have
abbrev pub HasToSend : HttpPeer → Type 0
HasToSend peer = ¬ (HasAnswer peer) × (came_of peer ≤ longest_head)

-- its requests so far, each with its answer
abbrev pub calls_of : HttpPeer → List Call
calls_of peer = (history (connection_of peer)).calls

-- each whole request that came has its call
abbrev pub IsAtRest : HttpPeer → Type 0
IsAtRest peer = Rests (config_of (connection_of peer)) (history (connection_of peer))

-- nothing came, nothing was answered and nothing went
abbrev pub IsStill : (before after : HttpPeer) → Type 0
IsStill before after = history (connection_of after) ≡ history (connection_of before)

abbrev pub KeepsLimits : (before after : HttpPeer) → Type 0
KeepsLimits before after = config_of (connection_of after) ≡ config_of (connection_of before)

-- all was said, and what still comes is dropped
abbrev pub has_parted : HttpPeer → Bool
has_parted peer = peer.progress.parts

-- these bytes came after all that were read, and these went after all that were sent
pub record GoesOn (ends ends2 : Ends) (before after : History) : Type 0 where
  pub came : List ℕ
  pub went : List ℕ
  pub carry : Carry ends ends2 came went
  pub received : after.received ≡ before.received ++ came
  pub sent : after.sent ≡ before.sent ++ went

-- what still comes where all was said is dropped
abbrev pub DropsBytes : (ends ends2 : Ends) (before after : HttpPeer) → Type 0
DropsBytes ends ends2 before after = (came : List ℕ) × IsTrue (has_parted before)
    × Carry ends ends2 came [] × IsStill before after

-- it is the same connection, on which more came and went
abbrev pub IsLater : (ends ends2 : Ends) (before after : HttpPeer) → Type 0
IsLater ends ends2 before after = DropsBytes ends ends2 before after
    ⊎ GoesOn ends ends2 (history (connection_of before)) (history (connection_of after))

-- the further requests are calls of a service, in order, and nothing else became of it
abbrev pub CallsService : {V : Type 0} (answers : V → Request (List ℕ) → Response → V → Type 0)
    (before after : HttpPeer) (old new : V) → Type 0
CallsService answers before after old new = Calls answers old new (calls_of before) (calls_of after)

module _ {S : Type 0} (store : Ghosts S) where
  -- the further requests are calls of the queues' service, in order, and nothing else became of the
  -- rooms
  abbrev pub MakesCalls : (before after : HttpPeer) (old new : Served S) → Type 0
  MakesCalls before after old new = CallsService (Answers store) before after old new
