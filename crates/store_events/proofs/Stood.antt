-- A job whose standing changes, as an event has it.
use Rattle.std.proofs.Common.{◌≡◌, ℕ, List, Ok, Err}
use Rattle.sqlite_trees.specs.declared.store.Store.{Ghosts}
use Rattle.sqlite.specs.Effect.{Database}
use Rattle.sqlite.specs.Held.{Held}
use Rattle.account_machine.specs.Steps.{with_moved}
use Rattle.account_rules.specs.Devices.{Devices}
use Rattle.account_rules.specs.declared.job.Job.{Job}
use Rattle.account_rules.specs.declared.job.Standing.{Standing}
use Rattle.account_state.specs.Rooms.{RoomValue}
use Rattle.rows_statements.proofs.Retelling.{leaves_as}
use Rattle.rows_statements.specs.Alone.{OnlyAccount}
use Rattle.rows_tables.specs.Accounts.{HoldsRoom}
use Rattle.rows_tables.specs.Calls.{ChangesWhole, IfOurTables, LeavesWhole}
use Rattle.rows_tables.specs.declared.fault.TableFault.{TableFault}
use Rattle.rows_tables.specs.declared.fault.TableFault.TheVariants as fault
use Rattle.store_events.proofs.ServingLemmas.{changed, not_changed}
use Rattle.store_rounds.specs.ProofKnown.{HasJobRow}
use Rattle.store_events.specs.ProofKnown.{StandsJob}
use Rattle.store_events.specs.Serving.{ChangesRows, DoesToTables, RowsHold}

module _ {S T : Type 0} (store : Ghosts S) (old new : Held S) (name : List ℕ) (job : Job) (standing : Standing) (Readable : Database → Type 0) (said : T) (known : IfOurTables store old new (HasJobRow name job)) where
  abbrev After : RoomValue × Devices → Database → Type 0
  After of db = HoldsRoom db name (with_moved of.0 job.job standing)

  abbrev Whole : Database → Database → Type 0
  Whole = ChangesRows (RowsHold name) (OnlyAccount name) After

  leaves_so : LeavesWhole store old new (StandsJob name job standing) → LeavesWhole store old new Whole
  leaves_so = leaves_as store old new (StandsJob name job standing) Whole (λ clean has after it. (it.alone (known clean has), λ of held. it.room (known clean has) of.0 held.room))

  -- it is answered
  pub stood : (it : T) → it ≡ said → ChangesWhole store old new {T = Unit {0}} {E = TableFault} (Ok tt) (StandsJob name job standing)
      → DoesToTables store old new (RowsHold name) Readable (OnlyAccount name) (λ of. said) After (Ok it)
  stood it is stands = changed (RowsHold name) Readable (OnlyAccount name) (λ of. said) After store old new it stands.whole
      (λ clean has. let made = stands.made clean has in (made.0, made.1.alone (known clean has), λ of held. (is, made.1.room (known clean has) of.0 held.room)))
      (leaves_so stands.crash)

  -- or fails
  pub not_stood : (e : TableFault) → IfOurTables store old new (λ db. e ≡ fault.Damaged → ⊥) → ChangesWhole store old new {T = Unit {0}} {E = TableFault} (Err e) (StandsJob name job standing)
      → DoesToTables store old new (RowsHold name) Readable (OnlyAccount name) (λ of. said) After (Err e)
  not_stood e undamaged stands = not_changed (RowsHold name) Readable (OnlyAccount name) (λ of. said) After store old new e stands.whole.keeps stands.whole.undone
      (λ clean has is readable. undamaged clean has is) (leaves_so stands.crash)
