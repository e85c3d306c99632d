-- Which round a peer hears of (this project's own).
use Rattle.std.specs.Prelude.{◌≡◌, ℕ, Bool, true, false, List, ◌∷◌, ◌++◌, map, not, Option, Some}
use Rattle.std.specs.List.{Contains}
use Rattle.slab.specs.Slab.{Slab, get}
use Rattle.sqlite_trees.specs.declared.store.Store.{Ghosts}
use Rattle.serve_peers.specs.Journals.{Round, Told, by_themselves, is_lost_of, open_of, rounds_of, shares_of}
use Rattle.serve_peers.specs.declared.entry.Entry.{Entry}
use Rattle.serve_peers.specs.declared.served.Served.{Served}
use Rattle.serve_sockets.specs.Guests.{NobodyWaits, asked_in}
use Rattle.serve_sockets.specs.Halls.{DoesAll, Step}
use Rattle.serve_sockets.specs.declared.guest.Guest.{Guest}

-- what came
abbrev pub entries_of : List Told → List Entry
entries_of tolds = map (λ (told : Told). told.0) tolds

-- It was asked in the round that is under way; or in the last that was shared, behind which nothing was
-- done but by itself, and that was lost exactly where what is served says so.
abbrev pub StandsInRound : {S : Type 0} (shares : Bool) (entry : Entry) (served : Served S) → Type 0
StandsInRound true entry served = Contains (entries_of (open_of served)) entry
StandsInRound false entry served =
    (before : List Round) × (shared : List Told) × (alone : List (Option Told))
    × (rounds_of served
    ≡ before ++ (shared, not (is_lost_of served)) ∷ by_themselves alone)
    × Contains (entries_of shared) entry

module _ {S : Type 0} (store : Ghosts S) where
  -- From where nobody waits, whatever goes on in a hall: who waits to hear of something asked it in
  -- that round.
  abbrev pub AlwaysHear : Type 0
  AlwaysHear = (steps : List Step) (old new : Slab Guest) (before after : Served S)
      → NobodyWaits old → DoesAll store steps old new before after
      → (key : ℕ) (guest : Guest) (entry : Entry) → get new key ≡ Some guest
      → Contains (asked_in guest) entry → StandsInRound (shares_of after) entry after
