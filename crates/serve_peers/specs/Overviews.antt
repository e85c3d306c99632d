-- What is served of the print room's page (all this project's own).
use Rattle.std.specs.Prelude.{◌≡◌, Bool, true, false, [], ◌∷◌, ◌++◌, Option, None, Some}
use Rattle.sqlite.specs.Held.{Held}
use Rattle.sqlite_trees.specs.declared.store.Store.{Ghosts}
use Rattle.page_overview.specs.declared.overview.Overview.{Overview}
use Rattle.serve_peers.specs.Gathering.{StepsOn, gathered_then}
use Rattle.serve_peers.specs.Journals.{shares_of, store_of}
use Rattle.serve_peers.specs.Keeping.{IsKeptIn}
use Rattle.serve_peers.specs.Writing.{rounds_in, under_way_in}
use Rattle.serve_peers.specs.declared.background.Background.{Background}
use Rattle.serve_peers.specs.declared.gathering.Gathered.{Gathered}
use Rattle.serve_peers.specs.declared.gathering.Gathering.{Gathering}
use Rattle.serve_peers.specs.declared.gathering.Stepped.{Stepped}
use Rattle.serve_peers.specs.declared.journal.Journal.{Journal}
use Rattle.serve_peers.specs.declared.served.Served.{Served}

abbrev pub gathered_of : {S : Type 0} → Served S → Gathered
gathered_of served = served.background.gathered

-- what the page shows
abbrev pub shown_of : {S : Type 0} → Served S → Overview
shown_of served = (gathered_of served).shown

-- nothing else is another
abbrev pub with_gathered : {S : Type 0} → Served S → Gathered → Served S
with_gathered served gathered =
    record served { background = record served.background { gathered = gathered } }

module _ {S : Type 0} (store : Ghosts S) where
  -- a step was done; of the rooms it is an empty round, as a question is
  pub record GathersOn (gathering : Gathering) (old new : Background) (source looked : Held S)
      (journal noted : Journal) : Type 0 where
    pub stepped : Stepped
    pub steps : StepsOn store gathering source looked stepped
    pub over : rounds_in noted ≡ rounds_in journal ++ ([], false) ∷ []
    pub none_more : under_way_in noted ≡ under_way_in journal
    pub same : new ≡ record old { gathered = gathered_then stepped old.gathered }

  -- where nothing is gathered, nothing is done
  abbrev pub GathersBy : (under_way : Option Gathering) (old new : Background)
      (source looked : Held S) (journal noted : Journal) → Type 0
  GathersBy None old new source looked journal noted =
      (new ≡ old) × (looked ≡ source) × (noted ≡ journal)
  GathersBy (Some gathering) old new source looked journal noted =
      GathersOn gathering old new source looked journal noted

  -- nor in a round; and nothing else becomes of what is served
  abbrev pub GathersOutside : (shares : Bool) (old new : Served S) → Type 0
  GathersOutside true old new = new ≡ old
  GathersOutside false old new =
      GathersBy (gathered_of old).under_way old.background new.background
      (store_of old) (store_of new) old.journal new.journal × IsKeptIn old new

  abbrev pub Gathers : (old new : Served S) → Type 0
  Gathers old new = GathersOutside (shares_of old) old new
