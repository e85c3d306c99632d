-- What a change comes to, told in other words.
use Rattle.std.proofs.Common.{◌≡◌, Result, Ok, Err, OnOk, sym, subst, inl, inr}
use Rattle.sqlite_trees.specs.declared.store.Store.{Ghosts}
use Rattle.sqlite.specs.Effect.{Database}
use Rattle.sqlite.specs.State.{HasCleanDisk}
use Rattle.sqlite.specs.Held.{Held, state}
use Rattle.rows_tables.specs.Calls.{ChangesWhole, LeavesWhole}
use Rattle.rows_tables.specs.Keyed.{HasSchema}

module _ {S : Type 0} (store : Ghosts S) (old new : Held S) (made told : Database → Database → Type 0) where
  abbrev Tells : Type 0
  Tells = HasCleanDisk (state store new) → HasSchema (state store old).now → (after : Database) → made (state store old).now after → told (state store old).now after

  -- what a crash leaves
  pub leaves_as : Tells → LeavesWhole store old new made → LeavesWhole store old new told
  leaves_as tells leaves clean has found may = elim (leaves clean has found may) [
    | inl before ↦ inl before
    | inr whole ↦ inr (record { after = whole.after; trees = whole.trees; schema = whole.schema; change = tells clean has whole.after whole.change; outside = whole.outside })
  ]

  changes_as : {E : Type 0} (result : Result (Unit {0}) E) → Tells → ChangesWhole store old new result made → HasCleanDisk (state store new) → OnOk result (HasSchema (state store old).now → HasSchema (state store new).now × told (state store old).now (state store new).now)
  changes_as (Ok done) tells changes clean = λ has. let it = changes.made clean has in (it.0, tells clean has (state store new).now it.1)
  changes_as (Err error) tells changes clean = tt

  pub told_as : {E : Type 0} (result : Result (Unit {0}) E) → Tells → ChangesWhole store old new result made → ChangesWhole store old new result told
  told_as result tells changes = record { whole = changes.whole; made = changes_as result tells changes; crash = leaves_as tells changes.crash }

-- an answer and a fault are handed on as others
module _ {S T U E F : Type 0} (store : Ghosts S) (old new : Held S) (changed : Database → Database → Type 0) where
  pub answered_as : (done : T) (told : U) → ChangesWhole store old new {T = T} {E = E} (Ok done) changed → ChangesWhole store old new {T = U} {E = F} (Ok told) changed
  answered_as done told changes = record {
    whole = record { keeps = changes.whole.keeps; opened = changes.whole.opened; within = changes.whole.within; undone = λ clean. tt };
    made = changes.made;
    crash = changes.crash;
  }

  pub failed_as : (error : E) (r : Result U F) (fault : F) → r ≡ Err fault → ChangesWhole store old new {T = T} {E = E} (Err error) changed → ChangesWhole store old new r changed
  failed_as error r fault is changes = subst (λ it. ChangesWhole store old new it changed) (sym is) (record {
    whole = record { keeps = changes.whole.keeps; opened = λ clean. tt; within = λ clean. tt; undone = changes.whole.undone };
    made = λ clean. tt;
    crash = changes.crash;
  })
