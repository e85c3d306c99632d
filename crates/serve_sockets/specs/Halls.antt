-- What a clause reads of a hall, and what goes on in it (all this project's own).
use Rattle.std.specs.Prelude.{◌≡◌, ◌≢◌, ◌-◌, ◌⊎◌, ⊤, ℕ, false, IsTrue, List, [], ◌∷◌, map, Option, None, Some, IsSomeAnd, if◌then◌else◌, nat_le}
use Rattle.std.specs.List.{All, Contains, filter_map}
use Rattle.mio.specs.Event.{event_token}
use Rattle.mio.specs.Events.{items}
use Rattle.mio.specs.declared.event.event.Event.{Event}
use Rattle.mio.specs.declared.token.Token.{Token}
use Rattle.slab.specs.Slab.{Slab, SameValues, get}
use Rattle.sqlite_trees.specs.declared.store.Store.{Ghosts}
use Rattle.serve_peers.specs.Journals.{moment_of, shares_of}
use Rattle.serve_peers.specs.Keeping.{OnlyKeeps}
use Rattle.serve_peers.specs.Rounds.{IsBegun, IsNotBegun, IsSettled}
use Rattle.serve_peers.specs.Space.{spare_of}
use Rattle.serve_peers.specs.declared.served.Served.{Served}
use Rattle.serve_peers.specs.declared.step.Next.{Next}
use Rattle.serve_peers.specs.declared.step.Next.TheVariants as next_is
use Rattle.serve_peers.specs.declared.step.Turn.{Turn}
use Rattle.serve_sockets.specs.Guests.{IsNew, NobodyWaits, Turns, is_waiting}
use Rattle.serve_sockets.specs.declared.clock.Reading.{Reading}
use Rattle.serve_sockets.specs.declared.doors.Speech.{Speech}
use Rattle.serve_sockets.specs.declared.guest.Guest.{Guest}
use Rattle.serve_sockets.specs.declared.hall.Hall.{Hall}
use Rattle.serve_sockets.specs.declared.hall.TheConstants.{MOST_DOORS}

-- the peers that are there, each with its socket and its connection, by their keys
abbrev pub guests_of : Hall → Slab Guest
guests_of hall = hall.peers.guests

-- the key of the peer whose token it is, or none where it is a door's
abbrev pub key_of : Token → Option ℕ
key_of token = if nat_le MOST_DOORS token.0 then Some (token.0 - MOST_DOORS) else None

-- the key of the peer of whom an event tells
abbrev pub key_told : Event → Option ℕ
key_told event = key_of (event_token event)

-- the keys of the peers of whom events tell, in the order of the events
abbrev pub keys_told : List Event → List ℕ
keys_told events = filter_map key_told events

-- the keys of the peers of whom the system told when it was asked last
abbrev pub told_by : Hall → List ℕ
told_by hall = keys_told (items hall.events)

-- what is spoken at each of its doors
abbrev pub doors_of : Hall → List Speech
doors_of hall = hall.doors.items

-- nobody is there
abbrev pub IsEmpty : Hall → Type 0
IsEmpty hall = (key : ℕ) → get (guests_of hall) key ≡ None

-- every peer but the one of the key is as it was
abbrev pub AreOthersKept : (key : ℕ) (old new : Slab Guest) → Type 0
AreOthersKept key old new = (other : ℕ) → other ≢ key → get new other ≡ get old other

-- a peer is as it was, or was let go
abbrev pub MayGo : (was now : Option Guest) → Type 0
MayGo was now = (now ≡ was) ⊎ (now ≡ None)

-- every peer is as it was, or was let go
abbrev pub OnlyLeave : (old new : Slab Guest) → Type 0
OnlyLeave old new = (key : ℕ) → MayGo (get old key) (get new key)

-- every peer is as it was, and where nobody was somebody may have come in by one of these doors
abbrev pub OnlyEnter : (doors : List Speech) (old new : Slab Guest) → Type 0
OnlyEnter doors old new = (key : ℕ) → (get new key ≡ get old key)
    ⊎ ((get old key ≡ None) × IsSomeAnd (get new key) (IsNew doors))

-- a turn of which this came ends the connection, or the system may refuse to tell of it again
abbrev pub MayLeave : Next → Type 0
MayLeave next_is.Again = ⊤
MayLeave next_is.Leave = ⊤
MayLeave next_is.Close = ⊤
MayLeave _ = ⊥

-- who had a turn stays as it left them, or is let go
abbrev pub StaysAfter : (next : Next) (left now : Option Guest) → Type 0
StaysAfter next left now = ((next ≢ next_is.Close) × (now ≡ left)) ⊎ (MayLeave next × (now ≡ None))

-- only the moment may be another, and how much space is kept for a full disk
abbrev pub IsAtMoment : {S : Type 0} → (old new : Served S) → Type 0
IsAtMoment old new = (moment : ℕ) × (new ≡ record old { moment = moment; spare = spare_of new })

module _ {S : Type 0} (store : Ghosts S) where
  -- a guest had a turn at a moment, and is there as the turn left it, or was let go after it
  pub record IsDriven (guest : Guest) (now : Option Guest) (old new : Served S) : Type 0 where
    pub begun : Served S
    pub moment : IsAtMoment old begun
    pub turn : Turn
    pub next : Next
    pub left : Guest
    pub driven : Turns store (shares_of begun) turn next guest left begun new
    pub stays : StaysAfter next (Some left) now

  -- Who has the key has a turn, at the moment and by the ticks that the clocks told. Nobody has it
  -- where nobody has the key; and where a clock told nothing who has it is let go.
  abbrev pub ServesAt :
      (was : Option Guest) (told : Option Reading) (now : Option Guest) (old new : Served S)
      → Type 0
  ServesAt None told now old new = (now ≡ None) × IsAtMoment old new
  ServesAt (Some guest) (Some told) now old new = (driven : IsDriven guest now old new)
      × (moment_of driven.begun ≡ told.moment) × (driven.turn.ticks ≡ told.ticks)
  ServesAt (Some guest) None now old new = (now ≡ None) × (new ≡ old)

  -- whatever the clocks told
  abbrev pub Serves : (was now : Option Guest) (old new : Served S) → Type 0
  Serves was now old new = (told : Option Reading) × ServesAt was told now old new

-- ---- one thing after another

pub data Step : Type 0 where
  Keep : Step
  Begin : Step
  Ask : (key : ℕ) → Step
  Settle : Step
  Serve : (key : ℕ) → Step
  Drop : (key : ℕ) → Step
  Enter : (doors : List Speech) → Step
  Leave : Step

-- The peer of the key is served before anything else becomes of it in these steps. A turn in a round,
-- in which it only asks, does not serve it.
abbrev pub IsServedFirst : (key : ℕ) (steps : List Step) → Type 0
IsServedFirst key [] = ⊥
IsServedFirst key (Keep ∷ steps) = IsServedFirst key steps
IsServedFirst key (Begin ∷ steps) = IsServedFirst key steps
IsServedFirst key (Ask other ∷ steps) = IsServedFirst key steps
IsServedFirst key (Settle ∷ steps) = IsServedFirst key steps
IsServedFirst key (Serve other ∷ steps) = (other ≡ key) ⊎ IsServedFirst key steps
IsServedFirst key (Drop other ∷ steps) = (other ≢ key) × IsServedFirst key steps
IsServedFirst key (Enter doors ∷ steps) = ⊥
IsServedFirst key (Leave ∷ steps) = ⊥

-- the same, or nothing becomes of it
abbrev pub IsSpared : (key : ℕ) (steps : List Step) → Type 0
IsSpared key [] = ⊤
IsSpared key (Keep ∷ steps) = IsSpared key steps
IsSpared key (Begin ∷ steps) = IsSpared key steps
IsSpared key (Ask other ∷ steps) = IsSpared key steps
IsSpared key (Settle ∷ steps) = IsSpared key steps
IsSpared key (Serve other ∷ steps) = (other ≡ key) ⊎ IsSpared key steps
IsSpared key (Drop other ∷ steps) = (other ≢ key) × IsSpared key steps
IsSpared key (Enter doors ∷ steps) = ⊥
IsSpared key (Leave ∷ steps) = ⊥

-- peers are served, or let go, and nothing else goes on
abbrev pub OnlyServe : (steps : List Step) → Type 0
OnlyServe [] = ⊤
OnlyServe (Serve key ∷ steps) = OnlyServe steps
OnlyServe (Drop key ∷ steps) = OnlyServe steps
OnlyServe (_ ∷ steps) = ⊥

-- who comes in does so by one of these doors
abbrev pub EntersBy : (doors : List Speech) (step : Step) → Type 0
EntersBy doors (Enter these) = these ≡ doors
EntersBy doors _ = ⊤

-- the same in each of these steps
abbrev pub AllEnterBy : (doors : List Speech) (steps : List Step) → Type 0
AllEnterBy doors [] = ⊤
AllEnterBy doors (step ∷ steps) = EntersBy doors step × AllEnterBy doors steps

module _ {S : Type 0} (store : Ghosts S) where
  -- a round begins, or can't, or one is under way
  abbrev pub BeginsRound : (before after : Served S) → Type 0
  BeginsRound before after = (IsTrue (shares_of before) × (after ≡ before))
      ⊎ (IsBegun store before after ⊎ IsNotBegun store before after)

  -- the round is settled, if one is under way
  abbrev pub SettlesRound : (before after : Served S) → Type 0
  SettlesRound before after =
      ((shares_of before ≡ false) × (after ≡ before)) ⊎ IsSettled store before after

  -- What a backup asked for is done, or an account is gathered, and nothing is applied. A round begins, once everybody has heard of
  -- those before; who has a key asks in it; it is settled. Where none is under way who has a key is served. Or who has one may be let go. All
  -- others stay. Or some come in, or are let go. Nothing else becomes of what is served.
  abbrev pub Does : (step : Step) (old new : Slab Guest) (before after : Served S) → Type 0
  Does Keep old new before after = SameValues old new × OnlyKeeps store before after
  Does Begin old new before after =
      SameValues old new × NobodyWaits old × BeginsRound before after
  Does (Ask key) old new before after = IsTrue (shares_of before)
      × Serves store (get old key) (get new key) before after × AreOthersKept key old new
  Does Settle old new before after = SameValues old new × SettlesRound before after
  Does (Serve key) old new before after = (shares_of before ≡ false)
      × Serves store (get old key) (get new key) before after × AreOthersKept key old new
  Does (Drop key) old new before after =
      MayGo (get old key) (get new key) × AreOthersKept key old new × (after ≡ before)
  Does (Enter doors) old new before after = OnlyEnter doors old new × (after ≡ before)
  Does Leave old new before after = OnlyLeave old new × (after ≡ before)

  abbrev pub DoesAll : (steps : List Step) (old new : Slab Guest) (before after : Served S)
      → Type 0
  DoesAll [] old new before after = SameValues old new × (after ≡ before)
  DoesAll (step ∷ steps) old new before after = (mid : Slab Guest) × (between : Served S)
      × Does step old mid before between × DoesAll steps mid new between after

  -- where no round was under way none is
  abbrev pub StaysAlone : (before after : Served S) → Type 0
  StaysAlone before after = shares_of before ≡ false → shares_of after ≡ false

  -- all that became of the peers and of what is served is such steps, in which who comes in does so
  -- by one of these doors
  abbrev pub GoesOn : (doors : List Speech) (old new : Slab Guest) (before after : Served S)
      → Type 0
  GoesOn doors old new before after = (steps : List Step) × DoesAll steps old new before after
      × StaysAlone before after × AllEnterBy doors steps

  -- the same, and each peer of these keys is served before anything else becomes of it
  abbrev pub ServesThose : (doors : List Speech) (keys : List ℕ) (old new : Slab Guest)
      (before after : Served S) → Type 0
  ServesThose doors keys old new before after = (steps : List Step)
      × DoesAll steps old new before after × StaysAlone before after
      × All (λ key. IsServedFirst key steps) keys × AllEnterBy doors steps

  -- ---- the parts of a pass

  -- some peers of these keys ask in the round that is under way, and nothing else goes on
  abbrev pub OnlyAsk : (keys : List ℕ) (old new : Slab Guest) (before after : Served S) → Type 0
  OnlyAsk keys old new before after = (asked : List ℕ) × All (Contains keys) asked
      × DoesAll (map Ask asked) old new before after

  -- Where everybody has heard of the rounds before, some peers of these keys may share one. Nobody
  -- else waits to hear of it, nobody is let go but by a turn, and it is settled.
  abbrev pub SharesRound : (keys : List ℕ) (old new : Slab Guest) (before after : Served S)
      → Type 0
  SharesRound keys old new before after = NobodyWaits old → (steps : List Step)
      × DoesAll steps old new before after × (shares_of after ≡ false)
      × ((key : ℕ) → IsSpared key steps)
      × ((key : ℕ) → IsTrue (is_waiting (get new key)) → Contains keys key)

  -- Where no round is under way peers are served, each of these keys among them, and nobody is let go
  -- who was not served.
  abbrev pub ServesEach : (keys : List ℕ) (old new : Slab Guest) (before after : Served S)
      → Type 0
  ServesEach keys old new before after = shares_of before ≡ false → (steps : List Step)
      × DoesAll steps old new before after × OnlyServe steps
      × ((key : ℕ) → IsSpared key steps) × All (λ key. IsServedFirst key steps) keys
