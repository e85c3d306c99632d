-- What a round does to the tables, and one round after another (all this project's own).
use Rattle.std.specs.Prelude.{◌≡◌, ◌⊎◌, Bool, true, false, List, [], ◌∷◌, ◌++◌, not, IsTrue}
use Rattle.sqlite.specs.Held.{Held, state}
use Rattle.sqlite.specs.State.{HasCleanDisk, Survives}
use Rattle.sqlite_trees.specs.declared.store.Store.{Ghosts}
use Rattle.rows_statements.specs.Rounds.{BeginsRound, EndsRound}
use Rattle.store_rounds.specs.Shut.{LeavesIfShut}
use Rattle.rows_tables.specs.Calls.{IsUnchanged, IsUndone, KeepsConnection, UnchangedOrUndone}
use Rattle.serve_peers.specs.declared.served.Served.{Served}
use Rattle.serve_peers.specs.Journals.{Round, is_lost_of, open_of, rounds_of, shares_of, store_of}
use Rattle.serve_peers.specs.Applying.{Leads, OnlyLooks}
use Rattle.serve_peers.specs.Space.{spare_of}

module _ {S : Type 0} (store : Ghosts S) where
  -- it is under way, and a crash finds nothing of it
  pub record Begins (old new : Held S) : Type 0 where
    pub begun : HasCleanDisk (state store new) → BeginsRound (state store old) (state store new)
    pub survives : Survives (state store old) (state store new) (λ _. ⊥)

  -- It is over: what was seen in it is committed, or it is undone. A crash finds all of it, or
  -- nothing; and nothing where a fault has shut the connection before.
  abbrev pub IsOver : (kept : Bool) (old new : Held S) → Type 0
  IsOver true old new =
      HasCleanDisk (state store new) → EndsRound (state store old) (state store new)
  IsOver false old new = HasCleanDisk (state store new)
      → UnchangedOrUndone (state store old) (state store new)
      × (IsTrue (state store old).in_transaction
      → IsUndone (state store old) (state store new))

  pub record Ends (kept : Bool) (old new : Held S) : Type 0 where
    pub over : IsOver kept old new
    pub connection : KeepsConnection (state store old) (state store new)
    pub survives : Survives (state store old) (state store new)
        (λ found. found ≡ (state store old).now.trees)
    pub shut : LeavesIfShut (state store old) (state store new)

  -- it could not begin, and nothing has changed
  pub record IsRefused (old new : Held S) : Type 0 where
    pub unchanged : HasCleanDisk (state store new) → IsTrue (state store new).is_open
        → IsUnchanged (state store old) (state store new)
    pub connection : KeepsConnection (state store old) (state store new)

  -- what is served begins one
  pub record IsBegun (old new : Served S) : Type 0 where
    pub alone : shares_of old ≡ false
    pub begins : Begins (store_of old) (store_of new)
    pub same : new ≡ record old { rounds = store_of new; shares = true }

  -- or can't
  pub record IsNotBegun (old new : Served S) : Type 0 where
    pub alone : shares_of old ≡ false
    pub refused : IsRefused (store_of old) (store_of new)
    pub over : rounds_of new ≡ rounds_of old ++ ([], false) ∷ []
    pub none_more : open_of new ≡ open_of old
    pub same : new ≡ record old { rounds = store_of new; journal = new.journal }

  -- or ends it
  pub record IsSettled (old new : Served S) : Type 0 where
    pub shared : IsTrue (shares_of old)
    pub ends : Ends (not (is_lost_of new)) (store_of old) (store_of new)
    pub over : rounds_of new ≡ rounds_of old ++ (open_of old, not (is_lost_of new)) ∷ []
    pub none_left : open_of new ≡ []
    pub same : new ≡ record old {
      rounds = store_of new;
      journal = new.journal;
      spare = spare_of new;
      shares = false;
      is_lost = new.is_lost;
      bytes_told = 0;
    }

  -- it began, each was applied in it, and it ended
  pub record IsRound (round : Round) (old new : Held S) : Type 0 where
    pub begun : Held S
    pub ended : Held S
    pub begins : Begins old begun
    pub leads : Leads store true begun round.0 ended
    pub ends : Ends round.1 ended new

  -- it was a round; or what was asked was applied by itself; or a question was asked, or no round
  -- could begin
  abbrev pub Settles : (round : Round) (old new : Held S) → Type 0
  Settles round old new = IsRound round old new
      ⊎ (IsTrue round.1 × Leads store false old round.0 new)
      ⊎ ((round ≡ ([], false)) × OnlyLooks store old new)

  abbrev pub AllSettle : (old : Held S) (rounds : List Round) (new : Held S) → Type 0
  AllSettle old [] new = new ≡ old
  AllSettle old (round ∷ more) new =
      (next : Held S) × Settles round old next × AllSettle next more new

  -- these rounds, and nothing else, made of the tables what they are
  pub record Follows (old new : Served S) : Type 0 where
    pub more : List Round
    pub over : rounds_of new ≡ rounds_of old ++ more
    pub settles : AllSettle (store_of old) more (store_of new)
