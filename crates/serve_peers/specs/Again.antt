-- What is answered to an event that was applied once more, behind a failure of the storage (all this
-- project's own).
use Rattle.std.specs.Prelude.{Result, Err}
use Rattle.sqlite.specs.Held.{Held}
use Rattle.sqlite_trees.specs.declared.store.Store.{Ghosts}
use Rattle.account_machine.specs.declared.verdict.Answered.{Answered}
use Rattle.store_rounds.specs.declared.fault.StoreFault.{StoreFault}
use Rattle.store_rounds.specs.declared.fault.StoreFault.TheVariants.{Damaged, Storage}
use Rattle.serve_peers.specs.Applying.{AppliesAlone}
use Rattle.serve_peers.specs.declared.entry.Entry.{Entry}

-- rows that were found damaged only then are a failure of the storage, as it was at first
abbrev pub answer_at_last : Result Answered StoreFault → Result Answered StoreFault
answer_at_last (Err Damaged) = Err Storage
answer_at_last answer = answer

module _ {S : Type 0} (store : Ghosts S) where
  -- what was answered first to an event that was applied from some tables on, and what is at last,
  -- are both what that event, applied once from there on, comes to
  abbrev pub IsOneMore : (entry : Entry) (mid : Held S) (first : Result Answered StoreFault)
      (new : Held S) (last : Result Answered StoreFault) → Type 0
  IsOneMore entry mid first new last = (old : Held S)
      → AppliesAlone store entry old mid first → AppliesAlone store entry old new last
