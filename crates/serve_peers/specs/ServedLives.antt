-- What each account was answered in the rounds that were kept, and what a crash finds of it (all this
-- project's own).
use Rattle.std.specs.Prelude.{◌≡◌, ◌⊎◌, ℕ, Bool, true, false, List, ◌++◌, IsTrue, Result}
use Rattle.sqlite.specs.Held.{Held, state}
use Rattle.sqlite_trees.specs.Tree.{Trees}
use Rattle.sqlite_trees.specs.declared.store.Store.{Ghosts}
use Rattle.account_machine.specs.Verdicts.{reply_of}
use Rattle.account_machine.specs.declared.verdict.Answered.{Answered}
use Rattle.account_lives.specs.Lives.{Life}
use Rattle.store_rounds.specs.declared.fault.StoreFault.{StoreFault}
use Rattle.rows_tables.specs.Calls.{IfOurTables}
use Rattle.rows_tables.specs.Crashes.{IsOnDisk}
use Rattle.room_serve.specs.Crashes.{IsFound, IsFoundAfter}
use Rattle.room_serve.specs.LivesInFiles.{IsLifeIn, exchanges_of}
use Rattle.serve_peers.specs.Entries.{timed}
use Rattle.serve_peers.specs.declared.entry.Entry.{Entry}
use Rattle.serve_peers.specs.Journals.{Round, Told, events_of, kept_in, outcomes_of}
use Rattle.serve_peers.specs.Applying.{AppliesAlone, AppliesEntry, Leads}
use Rattle.serve_peers.specs.Rounds.{AllSettle, Begins, IsRound}

-- what an account was told, and the devices
abbrev pub told_to : (name : List ℕ) (more : List Told) → Life
told_to name more = exchanges_of name (events_of more) (outcomes_of more)

module _ {S : Type 0} (store : Ghosts S) where
  -- an account's life goes on with all that it was told in the rounds that were kept
  abbrev pub AlwaysLives : Type 0
  AlwaysLives = (rounds : List Round) (old new : Held S) → AllSettle store old rounds new
      → IfOurTables store old new (λ db. (name : List ℕ) (life : Life) → IsLifeIn db true name life
      → IsLifeIn (state store new).now (state store new).is_open name
      (life ++ told_to name (kept_in rounds)))

  -- An open after a crash finds the tables from before a round or the whole round, and nothing
  -- between: the whole where it was kept, nothing of it where it was lost and the connection is
  -- still open.
  pub record FindsRound (round : Round) (before whole : Trees) (is_open : Bool) (found : Trees)
      : Type 0 where
    pub either : (found ≡ before) ⊎ (found ≡ whole)
    pub kept : IsTrue round.1 → found ≡ whole
    pub lost : round.1 ≡ false → IsTrue is_open → found ≡ before

  abbrev pub AlwaysFound : Type 0
  AlwaysFound = (round : Round) (old new : Held S) (is : IsRound store round old new)
      → IfOurTables store old new (λ db. (found : Trees) → (state store new).may_leave found
      → FindsRound round db.trees (state store is.ended).now.trees (state store new).is_open
      found)

  -- Between rounds a crash finds the life with all that was told in those that were kept.
  abbrev pub KeptIsFound : Type 0
  KeptIsFound = (rounds : List Round) (old new : Held S) → IsOnDisk (state store old)
      → AllSettle store old rounds new
      → IfOurTables store old new (λ db. IsTrue (state store new).is_open
      → (name : List ℕ) (life : Life) → IsLifeIn db true name life
      → (found : Trees) → (state store new).may_leave found
      → IsFound name (life ++ told_to name (kept_in rounds)) found)

  -- In a round behind them, before its commit, it finds the same and nothing of the round: behind
  -- what was applied in it so far, and within what came next, also where that shut the connection.
  abbrev pub RoundIsNotFound : Type 0
  RoundIsNotFound = (rounds : List Round) (old mid begun last new : Held S)
      → AllSettle store old rounds mid → Begins store mid begun
      → (more : List Told) → Leads store true begun more last
      → (new ≡ last) ⊎ ((next : Told) × AppliesEntry store true next.0 last new next.1)
      → IfOurTables store old new (λ db. (name : List ℕ) (life : Life) → IsLifeIn db true name life
      → (found : Trees) → (state store new).may_leave found
      → IsFound name (life ++ told_to name (kept_in rounds)) found)

  -- the life from before a round, or with all that was told in it: by the same cases
  pub record FindsLife (round : Round) (name : List ℕ) (before : Life) (is_open : Bool)
      (found : Trees) : Type 0 where
    pub either : IsFound name before found ⊎ IsFound name (before ++ told_to name round.0) found
    pub kept : IsTrue round.1 → IsFound name (before ++ told_to name round.0) found
    pub lost : round.1 ≡ false → IsTrue is_open → IsFound name before found

  -- within the commit and behind it, at most the whole round
  abbrev pub RoundIsFound : Type 0
  RoundIsFound = (rounds : List Round) (old mid new : Held S) → AllSettle store old rounds mid
      → (round : Round) (is : IsRound store round mid new)
      → IfOurTables store old new (λ db.
      (name : List ℕ) (life : Life) → IsLifeIn db true name life
      → (found : Trees) → (state store new).may_leave found
      → FindsLife round name (life ++ told_to name (kept_in rounds)) (state store new).is_open
      found)

  -- and of what is applied by itself, at most that event
  abbrev pub AloneIsFound : Type 0
  AloneIsFound = (rounds : List Round) (old mid new : Held S) → IsOnDisk (state store old)
      → AllSettle store old rounds mid → IsTrue (state store mid).is_open
      → (entry : Entry) (told : Result Answered StoreFault) → AppliesAlone store entry mid new told
      → IfOurTables store old new (λ db. (name : List ℕ) (life : Life)
      → IsLifeIn db true name life → (found : Trees) → (state store new).may_leave found
      → IsFoundAfter name (life ++ told_to name (kept_in rounds)) (timed entry) (reply_of told)
      (state store new).is_open found)
