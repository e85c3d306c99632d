-- A turn of a peer that came in by a door (all this project's own).
use Rattle.std.specs.Prelude.{◌≡◌, ◌≢◌, ◌⊎◌, ◌+◌, ◌<◌, ℕ, Bool, true, false, List, [], ◌∷◌, ◌++◌, slice_get, Option, None, Some, IsFalse, is_some}
use Rattle.http_server.specs.Connection.{history}
use Rattle.http_server.specs.History.{new_history}
use Rattle.slab.specs.Slab.{Slab, get}
use Rattle.sqlite_trees.specs.declared.store.Store.{Ghosts}
use Rattle.serve_peers.specs.HttpPeers as http
use Rattle.serve_peers.specs.Journals.{is_lost_of, list_of}
use Rattle.serve_peers.specs.LastPeers as last
use Rattle.serve_peers.specs.LinePeers as lines
use Rattle.serve_peers.specs.Streams.{Ends}
use Rattle.serve_peers.specs.Lines.{IsNewOf}
use Rattle.serve_peers.specs.Space.{spare_of}
use Rattle.serve_peers.specs.declared.entry.Entry.{Entry}
use Rattle.serve_peers.specs.declared.served.Served.{Served}
use Rattle.serve_peers.specs.declared.step.Next.{Next}
use Rattle.serve_peers.specs.declared.step.Next.TheVariants.{HeldBack, Wait}
use Rattle.serve_peers.specs.declared.step.Turn.{Turn}
use Rattle.input_http.specs.Limits.{longest_head}
use Rattle.input_http.specs.declared.refusal.Refusal.TheVariants.{NoSpace}
use Rattle.serve_space.specs.Spares.{takes_of}
use Rattle.serve_desk.specs.Answers.{Answers as AnswersAtDesk}
use Rattle.serve_web.specs.Answers.{Answers}
use Rattle.serve_sockets.specs.declared.doors.Speech.{Speech}
use Rattle.serve_sockets.specs.declared.doors.Speech.TheVariants as speech_is
use Rattle.serve_sockets.specs.declared.guest.Guest.{Guest}
use Rattle.serve_sockets.specs.declared.guest.Peer.{Peer}
use Rattle.serve_sockets.specs.declared.guest.Peer.TheVariants.{Desk, Http, Last, Lines, Pages}

abbrev pub peer_of : Guest → Peer
peer_of guest = guest.peer

-- what it asked in a round, until it has a turn once that is settled
abbrev pub asked_in : Guest → List Entry
asked_in guest = list_of guest.asked

-- somebody is there who asked in a round, and has not heard of it
abbrev pub is_waiting : Option Guest → Bool
is_waiting None = false
is_waiting (Some guest) = is_some guest.asked

-- whoever is there has heard of each round in which it asked
abbrev pub NobodyWaits : Slab Guest → Type 0
NobodyWaits guests = (key : ℕ) → is_waiting (get guests key) ≡ false

-- its turns so far, each with what came of it
abbrev pub turns_of : Guest → List (Turn × Next)
turns_of guest = guest.turns.items

-- who came in by a door speaks what that door is for, and nothing came of it yet
abbrev pub CameBy : Speech → Peer → Type 0
CameBy speech_is.Http (Http peer) = history (http.connection_of peer) ≡ new_history
CameBy speech_is.Pages (Pages peer) = history (http.connection_of peer) ≡ new_history
CameBy speech_is.Desk (Desk peer) = history (http.connection_of peer) ≡ new_history
CameBy (speech_is.Lines side) (Lines peer) = IsNewOf side (lines.lines_of peer)
CameBy _ _ = ⊥

-- it came in by one of these doors, each given by what is spoken there, and had no turn yet
abbrev pub IsNew : (doors : List Speech) → Guest → Type 0
IsNew doors guest = (speech : Speech) × CameBy speech (peer_of guest) × (turns_of guest ≡ [])
    × (asked_in guest ≡ []) × (slice_get doors guest.door ≡ Some speech)

-- each whole request that came has its call, or no line is whole where nothing waits to go, or what
-- goes last does
abbrev pub IsAtRest : Peer → Type 0
IsAtRest (Http peer) = http.IsAtRest peer
IsAtRest (Pages peer) = http.IsAtRest peer
IsAtRest (Desk peer) = http.IsAtRest peer
IsAtRest (Lines peer) = lines.HasTaken (lines.lines_of peer)
IsAtRest (Last peer) = last.left_of peer ≢ []

-- of a socket it is not known what reads will give, nor what was written to it
abbrev pub of_socket : Ends
of_socket = (None, None)

-- in a round nothing is to be written
abbrev pub in_round : Ends
in_round = (None, Some [])

-- of a client's request more has come than this, in bytes of its body, and no answer waits to go to it
abbrev pub HasSentMore : (most : ℕ) → Peer → Type 0
HasSentMore most (Http peer) =
    (most + longest_head < http.came_of peer) × ¬ (http.HasAnswer peer)
HasSentMore most (Pages peer) =
    (most + longest_head < http.came_of peer) × ¬ (http.HasAnswer peer)
HasSentMore most (Desk peer) =
    (most + longest_head < http.came_of peer) × ¬ (http.HasAnswer peer)
HasSentMore most _ = ⊥

-- it is told that there is no space, and nothing more
abbrev pub IsRefusedForSpace : Peer → Type 0
IsRefusedForSpace (Last peer) = last.IsToldRefusal NoSpace peer
IsRefusedForSpace _ = ⊥

abbrev pub StaysOrIsRefused : (most : ℕ) (before after : Peer) → Type 0
StaysOrIsRefused most before after =
    (after ≡ before) ⊎ (HasSentMore most before × IsRefusedForSpace after)

module _ {S : Type 0} (store : Ghosts S) where
  -- What came on this connection is taken, by what is spoken on it, and nothing else becomes of the
  -- rooms: each request is a call of the service of queues, of that of pages or of that of the desk, and each
  -- line is applied, or a bad one. Behind what goes last nothing that comes is taken, and nothing becomes of the rooms.
  abbrev pub TakesTurn : (ends ends2 : Ends) (next : Next) (before after : Peer)
      (old new : Served S) → Type 0
  TakesTurn ends ends2 next (Http before) (Http after) old new =
      http.MakesCalls store before after old new × http.IsLater ends ends2 before after
  TakesTurn ends ends2 next (Pages before) (Pages after) old new =
      http.CallsService (Answers store) before after old new
      × http.IsLater ends ends2 before after
  TakesTurn ends ends2 next (Desk before) (Desk after) old new =
      http.CallsService (AnswersAtDesk store) before after old new
      × http.IsLater ends ends2 before after
  TakesTurn ends ends2 next (Lines before) (Lines after) old new =
      lines.TakesTurn store ends ends2 next before after old new
  TakesTurn ends ends2 next (Last before) (Last after) old new =
      last.SaysLast ends ends2 before after × (new ≡ old)
  TakesTurn _ _ _ _ _ _ _ = ⊥

  -- What was asked in a round that was lost is asked again, by itself, and what that comes to goes
  -- last on the connection, in the place of what was to go. Otherwise all is as it was, or a client is
  -- refused for want of space.
  abbrev pub AsksAgain : (lost : Bool) (asked : List Entry) (before begun : Peer)
      (old mid : Served S) → Type 0
  AsksAgain true (entry ∷ more) before (Last begun) old mid =
      last.IsToldAgain store entry begun old mid
  AsksAgain true (entry ∷ more) before (Http begun) old mid = ⊥
  AsksAgain true (entry ∷ more) before (Pages begun) old mid = ⊥
  AsksAgain true (entry ∷ more) before (Desk begun) old mid = ⊥
  AsksAgain true (entry ∷ more) before (Lines begun) old mid = ⊥
  AsksAgain _ _ before begun old mid =
      StaysOrIsRefused (takes_of (spare_of old)) before begun × (mid ≡ old)

  -- A guest had this turn where nothing is shared, and this came of it. What it asked in the round
  -- that was settled last it has heard then.
  pub record HasTurn (turn : Turn) (next : Next) (before after : Guest) (old new : Served S)
      : Type 0 where
    pub begun : Peer
    pub mid : Served S
    pub again : AsksAgain (is_lost_of old) (asked_in before) (peer_of before) begun old mid
    pub takes : TakesTurn of_socket of_socket next begun (peer_of after) mid new
    pub asked : asked_in after ≡ []
    pub rests : next ≡ Wait → IsAtRest (peer_of after)
    pub holds : next ≡ HeldBack → IsFalse turn.has_memory
    pub turns : turns_of after ≡ turns_of before ++ (turn, next) ∷ []
    pub socket : after.stream ≡ before.stream
    pub door : after.door ≡ before.door

  -- The same in a round, of which nothing goes to it. What it asks is kept with it, for its turn
  -- once the round is settled; it begins with what it asked in the same round before.
  pub record AsksTurn (turn : Turn) (next : Next) (before after : Guest) (old new : Served S)
      : Type 0 where
    pub left : Served S
    pub takes : TakesTurn in_round in_round next (peer_of before) (peer_of after)
        (record old { asked = before.asked }) left
    pub asked : after.asked ≡ left.asked
    pub same : new ≡ record left { asked = None }
    pub holds : next ≡ HeldBack → IsFalse turn.has_memory
    pub turns : turns_of after ≡ turns_of before ++ (turn, next) ∷ []
    pub socket : after.stream ≡ before.stream
    pub door : after.door ≡ before.door

  abbrev pub Turns : (shares : Bool) (turn : Turn) (next : Next) (before after : Guest)
      (old new : Served S) → Type 0
  Turns false turn next before after old new = HasTurn turn next before after old new
  Turns true turn next before after old new = AsksTurn turn next before after old new
