-- Who was ever there, one visit after another (all this project's own).
use Rattle.std.specs.Prelude.{◌≡◌, ◌≢◌, ◌==◌, ◌⊎◌, ⊤, ℕ, IsTrue, true, false, zero, suc, length, slice_get, List, [], ◌∷◌, Option, None, Some, IsSomeAnd, if◌then◌else◌}
use Rattle.slab.specs.Slab.{Slab, get}
use Rattle.sqlite_trees.specs.declared.store.Store.{Ghosts}
use Rattle.serve_peers.specs.Journals.{Told, is_lost_of, rounds_of, shares_of}
use Rattle.serve_peers.specs.declared.served.Served.{Served}
use Rattle.serve_sockets.specs.Guests.{asked_in, peer_of}
use Rattle.serve_sockets.specs.Halls.{Ask, Does, DoesAll, Drop, Leave, MayLeave, Serve, Serves, Step}
use Rattle.serve_sockets.specs.declared.guest.Guest.{Guest}
use Rattle.serve_sockets.specs.declared.guest.Peer.{Peer}
use Rattle.serve_sockets.specs.declared.guest.Peer.TheVariants.{Last}

-- A visit: of who has the key and is there; of who had it and was let go in the step of this
-- number; or of who had it up to that step, and went on from there as another.
pub data Visit : Type 0 where
  There : (key : ℕ) → Visit
  Over : (step key : ℕ) → Visit
  Before : (step key : ℕ) → Visit

-- it asks nothing more, and what is still to go to it goes last
abbrev pub IsLast : Peer → Type 0
IsLast (Last peer) = ⊤
IsLast _ = ⊥

-- It goes on as another. In a turn in a round it asks the first that it asks in that. Or outside
-- one it is refused for want of space, and is told that last.
abbrev pub GoesAsAnother : (step : Step) (was left : Guest) → Type 0
GoesAsAnother (Ask key) was left = (asked_in was ≡ []) × (asked_in left ≢ [])
GoesAsAnother (Serve key) was left = IsLast (peer_of left)
GoesAsAnother _ was left = ⊥

-- the round that was under way is not in the last journal: it is still under way, or was lost
abbrev pub IsLeftOut : {S : Type 0} → (began last : Served S) → Type 0
IsLeftOut began last =
    (told : List Told) → slice_get (rounds_of last) (length (rounds_of began)) ≢ Some (told, true)

-- what is asked in the step, if it is a turn in a round, is of one that is not in the last journal
abbrev pub AsksInVain : {S : Type 0} → (step : Step) (began last : Served S) → Type 0
AsksInVain (Ask key) began last = IsLeftOut began last
AsksInVain _ began last = ⊤

module _ {S : Type 0} (store : Ghosts S) where
  -- who had a turn, as the turn left it; where a clock told nothing there was none
  abbrev pub left_by : (was now : Option Guest) (old new : Served S) → Serves store was now old new
      → Option Guest
  left_by None now old new serves = None
  left_by (Some guest) now old new (Some told, (driven, at, by)) = Some driven.left
  left_by (Some guest) now old new (None, gone) = Some guest

  -- who had the key, as somebody's turn left it
  abbrev pub left_of_turn : (turner key : ℕ) (old new : Slab Guest) (before after : Served S)
      → Serves store (get old turner) (get new turner) before after → Option Guest
  left_of_turn turner key old new before after serves =
      if key == turner then left_by (get old turner) (get new turner) before after serves
      else get old key

  -- who had the key, as the step left it
  abbrev pub left_in : (step : Step) (key : ℕ) (old new : Slab Guest) (before after : Served S)
      → Does store step old new before after → Option Guest
  left_in (Ask turner) key old new before after does =
      left_of_turn turner key old new before after does.1
  left_in (Serve turner) key old new before after does =
      left_of_turn turner key old new before after does.1
  left_in _ key old new before after does = get old key

  -- ---- a step of a course

  -- what can be said of a step
  abbrev pub OfSteps : Type 1
  OfSteps = (step : Step) (old new : Slab Guest) (before after : Served S)
      → Does store step old new before after → Type 0

  -- this guest had the key, as the step left it, and was let go
  abbrev pub LetsGo : (key : ℕ) (guest : Guest) → OfSteps
  LetsGo key guest step old new before after does =
      (left_in step key old new before after does ≡ Some guest) × (get new key ≡ None)

  -- This guest had the key, as it was before the step, and went on as another. What it asked in the
  -- step is not in the last journal.
  abbrev pub TurnsAnother : (last : Served S) (key : ℕ) (guest : Guest) → OfSteps
  TurnsAnother last key guest step old new before after does = (get old key ≡ Some guest)
      × IsSomeAnd (left_in step key old new before after does) (GoesAsAnother step guest)
      × AsksInVain step before last

  -- Who waits in the step to hear of a round waits for one that is not in the last journal: for the
  -- one that was settled before, and was lost; or for the one that is under way.
  abbrev pub LosesRound : (last : Served S) → OfSteps
  LosesRound last step old new before after does =
      ((shares_of before ≡ false) × IsTrue (is_lost_of before))
      ⊎ (IsTrue (shares_of before) × IsLeftOut before last)

  -- its turn came to the end of the connection, or the system refused to tell of it again; or a
  -- clock told nothing
  abbrev pub EndsTurn : (was now : Option Guest) (old new : Served S) → Serves store was now old new
      → Type 0
  EndsTurn None now old new serves = ⊥
  EndsTurn (Some guest) now old new (Some told, (driven, at, by)) = MayLeave driven.next
  EndsTurn (Some guest) now old new (None, gone) = ⊤

  -- Who has the key may be let go in such a step: in its own turn; by itself, where it hardly reads
  -- what is held for it; or with others, where their time is over.
  abbrev pub MayEnd : (key : ℕ) → OfSteps
  MayEnd key (Ask turner) old new before after does = (turner ≡ key)
      × EndsTurn (get old turner) (get new turner) before after does.1
  MayEnd key (Serve turner) old new before after does = (turner ≡ key)
      × EndsTurn (get old turner) (get new turner) before after does.1
  MayEnd key (Drop dropped) old new before after does = dropped ≡ key
  MayEnd key Leave old new before after does = ⊤
  MayEnd key _ old new before after does = ⊥

  -- it is said of one of these steps, by its number
  abbrev pub OfStep : OfSteps → (n : ℕ) (steps : List Step) (old new : Slab Guest)
      (before after : Served S) → DoesAll store steps old new before after → Type 0
  OfStep says n [] old new before after does = ⊥
  OfStep says zero (step ∷ steps) old new before after does =
      says step old does.0 before does.1 does.2
  OfStep says (suc n) (step ∷ steps) old new before after does =
      OfStep says n steps does.0 new does.1 after does.3

  -- ---- a course

  -- what went on, step after step, in a hall that began with nobody in it
  pub record Course (guests : Slab Guest) (before after : Served S) : Type 0 where
    pub steps : List Step
    pub first : Slab Guest
    pub empty : (key : ℕ) → get first key ≡ None
    pub does : DoesAll store steps first guests before after

  module _ {guests : Slab Guest} {before after : Served S} (course : Course guests before after)
    where
      -- it is said of the step of that number
      abbrev pub InStep : OfSteps → (n : ℕ) → Type 0
      InStep says n = OfStep says n course.steps course.first guests before after course.does

      -- it was a visit of this guest, as it was at its end, or is now
      abbrev pub IsVisit : Visit → Guest → Type 0
      IsVisit (There key) guest = get guests key ≡ Some guest
      IsVisit (Over n key) guest = InStep (LetsGo key guest) n
      IsVisit (Before n key) guest = InStep (TurnsAnother after key guest) n
