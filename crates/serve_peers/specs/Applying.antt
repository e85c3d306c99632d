-- What an entry or a question does to the tables, by itself or in a round (all this project's own).
use Rattle.std.specs.Prelude.{◌≡◌, ◌⊎◌, Bool, true, false, List, [], ◌∷◌, IsTrue, Option, None, Some, OnErr, Result, Err}
use Rattle.sqlite.specs.Held.{Held, state}
use Rattle.sqlite.specs.State.{HasCleanDisk}
use Rattle.sqlite_trees.specs.declared.store.Store.{Ghosts}
use Rattle.account_machine.specs.declared.verdict.Answered.{Answered}
use Rattle.store_events.specs.Applied.{AppliesFully}
use Rattle.store_events.specs.Rounds.{IsLost, StaysInRound}
use Rattle.store_rounds.specs.Shut.{LeavesIfShut}
use Rattle.store_rounds.specs.declared.fault.StoreFault.{StoreFault}
use Rattle.store_rounds.specs.declared.fault.StoreFault.TheVariants.{Storage}
use Rattle.rows_tables.specs.Calls.{IfOurTables, IsUnchanged, KeepsConnection}
use Rattle.serve_peers.specs.Entries.{event_of_entry, moment_at}
use Rattle.serve_peers.specs.declared.entry.Entry.{Entry}
use Rattle.serve_peers.specs.Journals.{Told}

module _ {S : Type 0} (store : Ghosts S) where
  -- ---- one entry

  -- what came was applied, at its moment
  abbrev pub AppliesAlone :
      (entry : Entry) (old new : Held S) (told : Result Answered StoreFault) →
      Type 0
  AppliesAlone entry old new told =
      AppliesFully (moment_at entry) (event_of_entry entry) (state store old) (state store new) told

  -- the same in a round, which it may have lost
  pub record AppliesShared (entry : Entry) (old new : Held S) (told : Result Answered StoreFault)
      : Type 0 where
    pub inside : IsTrue (state store old).in_transaction
    pub applies : (HasCleanDisk (state store new) → OnErr told
        ((state store new).in_transaction ≡ (state store old).in_transaction))
        → AppliesAlone entry old new told
    pub within : IfOurTables store old new
        (λ _. StaysInRound (state store old) (state store new) told)
    pub lost : IfOurTables store old new (λ _. IsLost (state store old) (state store new) told)
    pub shut : LeavesIfShut (state store old) (state store new)
    pub connection : KeepsConnection (state store old) (state store new)

  -- once the round is lost nothing is applied in it
  pub record IsTooLate (old new : Held S) (told : Result Answered StoreFault) : Type 0 where
    pub lost : (state store old).in_transaction ≡ false
    pub same : new ≡ old
    pub fails : told ≡ Err Storage

  abbrev pub AppliesEntry : (shares : Bool) (entry : Entry) (old new : Held S)
      (told : Result Answered StoreFault) → Type 0
  AppliesEntry false entry old new told = AppliesAlone entry old new told
  AppliesEntry true entry old new told = AppliesShared entry old new told ⊎ IsTooLate old new told

  -- each was applied, once, one after another
  abbrev pub Leads : (shares : Bool) → Held S → List Told → Held S → Type 0
  Leads shares old [] new = new ≡ old
  Leads shares old (told ∷ more) new = (next : Held S)
      × AppliesEntry shares told.0 old next told.1 × Leads shares next more new

  -- ---- one question

  -- the tables are as they were; where they are not the store's it is not known what a question finds
  pub record OnlyLooks (old new : Held S) : Type 0 where
    pub unchanged : IfOurTables store old new
        (λ _. IsTrue (state store new).is_open → IsUnchanged (state store old) (state store new))
    pub connection : KeepsConnection (state store old) (state store new)

  -- what came was applied, or it was a question, of which there is none in a round
  abbrev pub DoesOne : (shares : Bool) → Option Told → (old new : Held S) → Type 0
  DoesOne shares (Some told) old new = AppliesEntry shares told.0 old new told.1
  DoesOne false None old new = OnlyLooks old new
  DoesOne true None old new = ⊥

  -- one after another
  abbrev pub DoesEach : (shares : Bool) → Held S → List (Option Told) → Held S → Type 0
  DoesEach shares old [] new = new ≡ old
  DoesEach shares old (one ∷ more) new = (next : Held S)
      × DoesOne shares one old next × DoesEach shares next more new
