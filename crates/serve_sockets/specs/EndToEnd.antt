-- From one end to the other: what came on each connection, what goes out on it, and what became of
-- the tables (all this project's own).
use Rattle.std.specs.Prelude.{◌≡◌, ◌≢◌, ◌<◌, ◌⊎◌, ⊤, ℕ, Bool, true, false, length, IsTrue, List, [], ◌++◌, Option, Some, None}
use Rattle.std.specs.List.{Contains}
use Rattle.slab.specs.Slab.{Slab, get}
use Rattle.sqlite.specs.Held.{Held, state}
use Rattle.sqlite_trees.specs.Tree.{Trees}
use Rattle.sqlite_trees.specs.declared.store.Store.{Ghosts}
use Rattle.account_lives.specs.Lives.{Life}
use Rattle.rows_tables.specs.Calls.{IfOurTables}
use Rattle.rows_tables.specs.Crashes.{IsOnDisk}
use Rattle.room_serve.specs.Crashes.{IsFound}
use Rattle.room_serve.specs.LivesInFiles.{IsLifeIn}
use Rattle.serve_peers.specs.Journals.{Told, journal_of, page_rules_of, open_of, rounds_of, shares_of, store_of}
use Rattle.serve_peers.specs.ServedRuns.{IsRunOf}
use Rattle.serve_peers.specs.LinePeers.{lines_of}
use Rattle.serve_peers.specs.Lines.{output_of}
use Rattle.serve_peers.specs.ServedLives.{told_to}
use Rattle.serve_peers.specs.declared.served.Served.{Served}
use Rattle.serve_sockets.specs.Doors.{IsByDoor}
use Rattle.serve_sockets.specs.Guests.{asked_in, peer_of}
use Rattle.serve_sockets.specs.Halls.{AllEnterBy, Ask, Serve}
use Rattle.serve_sockets.specs.declared.doors.Speech.{Speech}
use Rattle.serve_sockets.specs.declared.guest.Guest.{Guest}
use Rattle.serve_sockets.specs.declared.guest.Peer.{Peer}
use Rattle.serve_sockets.specs.declared.guest.Peer.TheVariants.{Desk, Http, Last, Lines, Pages}
use Rattle.serve_sockets.specs.Requests.{HasAnsweredRequests}
use Rattle.serve_sockets.specs.Lines.{HasAnsweredLines, TellsLinesNow}
use Rattle.serve_sockets.specs.Desk.{HasAnsweredDesk, TellsDeskNow}
use Rattle.serve_sockets.specs.Pages.{HasAnsweredPages, TellsPagesNow}
use Rattle.serve_sockets.specs.Last.{TellsLast, TellsNoSpace}
use Rattle.serve_sockets.specs.Visits.{Before, Course, InStep, IsVisit, LetsGo, LosesRound, MayEnd, OfSteps, Over, There, Visit, left_by}

-- what was told so far, with what stands in a round that is under way
abbrev pub log_of : {S : Type 0} → (shares : Bool) → Served S → List Told
log_of false served = journal_of served
log_of true served = journal_of served ++ open_of served

module _ {S : Type 0} (store : Ghosts S) (first last : Held S) where
  abbrev pub IsAnswered : Peer → (places : List ℕ) (journal : List Told) → Type 0
  IsAnswered (Http peer) places journal = HasAnsweredRequests peer places journal
  IsAnswered (Pages peer) places journal =
      HasAnsweredPages store first last peer places journal
  IsAnswered (Desk peer) places journal = HasAnsweredDesk store first last peer places journal
  IsAnswered (Lines peer) places journal = HasAnsweredLines store first last (lines_of peer)
      (output_of (lines_of peer)) places journal
  IsAnswered (Last peer) places journal = TellsLast peer places journal ⊎ TellsNoSpace peer places

  -- it was answered so; but what waited to go on a connection of lines may be lost with that
  abbrev pub WasAnswered : Peer → (places : List ℕ) (journal : List Told) → Type 0
  WasAnswered (Http peer) places journal = IsAnswered (Http peer) places journal
  WasAnswered (Pages peer) places journal = IsAnswered (Pages peer) places journal
  WasAnswered (Desk peer) places journal = IsAnswered (Desk peer) places journal
  WasAnswered (Lines peer) places journal = (waits : List ℕ)
      × HasAnsweredLines store first last (lines_of peer) waits places journal
  WasAnswered (Last peer) places journal = IsAnswered (Last peer) places journal

  -- What comes in a turn is told, in order, what stands behind the journal as it was when the turn
  -- began. A question is answered by the journal up to there, and only where no round is under way.
  abbrev pub TellsNow : (shares : Bool) (stays : Type 0) (was left : Peer) (old new : Served S)
      → Type 0
  TellsNow shares stays (Lines was) (Lines left) old new = TellsLinesNow store first last
      shares stays (lines_of was) (lines_of left) (length (log_of shares old)) (log_of shares new)
  TellsNow shares stays (Pages was) (Pages left) old new = TellsPagesNow store first last shares
      was left (length (log_of shares old)) (log_of shares new)
  TellsNow shares stays (Desk was) (Desk left) old new = TellsDeskNow store first last shares
      was left (length (log_of shares old)) (log_of shares new)
  TellsNow shares stays _ _ old new = ⊤

  abbrev pub TellsThen : (shares : Bool) (was left now : Option Guest) (old new : Served S)
      → Type 0
  TellsThen shares (Some was) (Some left) now old new =
      TellsNow shares (now ≢ None) (peer_of was) (peer_of left) old new
  TellsThen shares _ _ now old new = ⊤

  -- the same of a step, where it is a turn
  abbrev pub TellsInStep : OfSteps store
  TellsInStep (Ask turner) old new before after does = TellsThen true (get old turner)
      (left_by store (get old turner) (get new turner) before after does.1) (get new turner)
      before after
  TellsInStep (Serve turner) old new before after does = TellsThen false (get old turner)
      (left_by store (get old turner) (get new turner) before after does.1) (get new turner)
      before after
  TellsInStep _ old new before after does = ⊤

  -- a visit was answered, or is, as far as it is known at its end
  abbrev pub HadAnswer : Visit → Peer → (places : List ℕ) (journal : List Told) → Type 0
  HadAnswer (There key) peer places journal = IsAnswered peer places journal
  HadAnswer (Over step key) peer places journal = WasAnswered peer places journal
  HadAnswer (Before step key) peer places journal = IsAnswered peer places journal

-- nothing was asked yet, and no round is under way
pub record IsFresh {S : Type 0} (served : Served S) : Type 0 where
  pub none_over : rounds_of served ≡ []
  pub none_asked : open_of served ≡ []
  pub alone : shares_of served ≡ false

module _ {S : Type 0} (store : Ghosts S) where
  -- ---- what became of the tables

  -- An account's life goes on with what the journal tells it and the devices, and its rows are what
  -- that has left.
  abbrev pub LivesOn : (before after : Served S) → Type 0
  LivesOn before after = IfOurTables store (store_of before) (store_of after) (λ db.
      (name : List ℕ) (life : Life) → IsLifeIn db true name life
      → IsLifeIn (state store (store_of after)).now (state store (store_of after)).is_open name
      (life ++ told_to name (journal_of after)))

  -- an open after a crash finds that life, and nothing behind it
  abbrev pub IsFoundAgain : (before after : Served S) → Type 0
  IsFoundAgain before after = IsOnDisk (state store (store_of before))
      → IfOurTables store (store_of before) (store_of after) (λ db.
      IsTrue (state store (store_of after)).is_open
      → (name : List ℕ) (life : Life) → IsLifeIn db true name life
      → (found : Trees) → (state store (store_of after)).may_leave found
      → IsFound name (life ++ told_to name (journal_of after)) found)

  -- ---- from one end to the other

  -- Whoever comes in does so by one of these doors, and speaks what that is for, or is told one last
  -- thing. What stands at each place of the journal was asked in one visit, and in no other. It was
  -- the visit of somebody who was there, and who was told what stands at the places of that visit, in
  -- answer to what came. So is whoever is there and waits for no round. So was whoever was let go,
  -- but for who waited to hear of a round that is not in the journal. In each turn a question is
  -- answered by the journal as it stands then. Nobody is let go but in a step that may end its
  -- visit. Where no round is under way the tables are what the journal leaves, as one list of
  -- events. A crash finds what the journal has. What the pages hold
  -- requests to stays.
  pub record IsWhole (doors : List Speech) (guests : Slab Guest) (before after : Served S)
      : Type 0 where
    pub course : Course store guests before after
    pub enter : AllEnterBy doors course.steps
    pub by_doors : (visit : Visit) (guest : Guest) → IsVisit store course visit guest
        → IsByDoor doors guest
    pub asker : (place : ℕ) → Visit
    pub places : Visit → List ℕ
    pub all_asked : (place : ℕ) → place < length (journal_of after)
        → Contains (places (asker place)) place
    pub apart : (visit : Visit) (place : ℕ) → Contains (places visit) place
        → (place < length (journal_of after)) × (asker place ≡ visit)
    pub told : (place : ℕ) → place < length (journal_of after) → (guest : Guest)
        × IsVisit store course (asker place) guest
        × HadAnswer store (store_of before) (store_of after) (asker place) (peer_of guest)
        (places (asker place)) (journal_of after)
    pub answered : (key : ℕ) (guest : Guest) → get guests key ≡ Some guest → asked_in guest ≡ []
        → IsAnswered store (store_of before) (store_of after) (peer_of guest) (places (There key))
        (journal_of after)
    pub let_go : (step key : ℕ) (guest : Guest) → InStep store course (LetsGo store key guest) step
        → WasAnswered store (store_of before) (store_of after) (peer_of guest)
        (places (Over step key)) (journal_of after)
        ⊎ ((asked_in guest ≢ []) × InStep store course (LosesRound store after) step)
    pub in_turns : (step : ℕ) → step < length course.steps
        → InStep store course (TellsInStep store (store_of before) (store_of after)) step
    pub ended : (step key : ℕ) (guest : Guest) → InStep store course (LetsGo store key guest) step
        → InStep store course (MayEnd store key) step
    pub runs : shares_of after ≡ false
        → IsRunOf store (journal_of after) (store_of before) (store_of after)
    pub lives : shares_of after ≡ false → LivesOn before after
    pub found : IsFoundAgain before after
    pub page_rules : page_rules_of after ≡ page_rules_of before

  -- A hall served over these tables, which held what they may before it. It began with nobody in
  -- it, and nothing was asked before. All that it did is one whole, and the tables are what that left.
  pub record ServesWhole (old new : Held S) : Type 0 where
    pub doors : List Speech
    pub guests : Slab Guest
    pub before : Served S
    pub after : Served S
    pub over : store_of before ≡ old
    pub fresh : IsFresh before
    pub whole : IsWhole doors guests before after
    pub leaves : store_of after ≡ new

  -- whatever went on behind these doors in a hall that began with nobody in it, there is a whole of
  -- just those steps
  abbrev pub FromEndToEnd : Type 0
  FromEndToEnd = (doors : List Speech) (guests : Slab Guest) (before after : Served S)
      → (course : Course store guests before after) → AllEnterBy doors course.steps
      → IsFresh before → (whole : IsWhole doors guests before after) × (whole.course ≡ course)
