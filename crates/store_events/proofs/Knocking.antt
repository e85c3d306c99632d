-- A connection that is asked whether it is open, before an event.
use Rattle.std.proofs.Common.{◌≡◌, ℕ, Option, Result, Err}
use Rattle.sqlite_trees.specs.declared.store.Store.{Ghosts}
use Rattle.sqlite.specs.Held.{Held, state}
use Rattle.account_machine.specs.DeviceEvents.{device_answered}
use Rattle.account_machine.specs.Events.{PlainEvent, OfAccount, OfDevice}
use Rattle.account_machine.specs.Machine.{answered}
use Rattle.account_machine.specs.declared.verdict.Answered.{Answered}
use Rattle.account_rules.specs.Devices.{Devices}
use Rattle.account_state.specs.Rooms.{RoomValue}
use Rattle.rows_statements.specs.Alone.{OnlyAccount, OnlyDevices}
use Rattle.store_rounds.proofs.LookLemmas.{Passed}
use Rattle.store_events.proofs.ServingLemmas.{look_failed_as, serves_after}
use Rattle.store_events.specs.Answers.{of_answer, of_device_answer}
use Rattle.store_events.specs.Reading.{IsReadable}
use Rattle.store_rounds.specs.Looks.{LooksUp}
use Rattle.store_events.specs.Serving.{DoesEvent, MayBeHeld}
use Rattle.rows_tables.specs.Accounts.{Holds}
use Rattle.rows_tables.specs.Devices.{HoldsDevices}
use Rattle.rows_tables.specs.declared.fault.TableFault.{TableFault}
use Rattle.rows_tables.specs.declared.fault.TableFault.TheVariants as table

module _ {S : Type 0} (store : Ghosts S) (now : ℕ) where
  -- where it is not, the event is not begun
  pub event_failed : (e : PlainEvent) (old new : Held S) (r : Result Answered TableFault) (f g : TableFault) → r ≡ Err f → f ≡ g → LooksUp store old new {T = Unit {0}} (Err g) → (g ≡ table.Damaged → ⊥) → DoesEvent store old new now e r
  event_failed (OfAccount name it) old new r f g is same looks never =
      look_failed_as {R = Option RoomValue × Devices} (MayBeHeld name) (IsReadable now (OfAccount name it)) (OnlyAccount name) (λ of. of_answer (answered of.0 of.1 now (OfAccount name it))) (λ of db. Holds db name (answered of.0 of.1 now (OfAccount name it)).room)
      store {U = Unit {0}} old new r f g is same looks (λ clean has damaged readable. never damaged)
  event_failed (OfDevice name it) old new r f g is same looks never =
      look_failed_as {R = Devices} (λ devices db. HoldsDevices db devices) (IsReadable now (OfDevice name it)) OnlyDevices (λ devices. of_device_answer (device_answered devices (OfDevice name it))) (λ devices db. HoldsDevices db (device_answered devices (OfDevice name it)).devices)
      store {U = Unit {0}} old new r f g is same looks (λ clean has damaged readable. never damaged)

  -- where it is, the event is as ever
  pub event_after : (e : PlainEvent) (old mid new : Held S) (r : Result Answered TableFault) → Passed (state store old) (state store mid) → DoesEvent store mid new now e r → DoesEvent store old new now e r
  event_after (OfAccount name it) old mid new r passed does =
      serves_after {R = Option RoomValue × Devices} (MayBeHeld name) (IsReadable now (OfAccount name it)) (OnlyAccount name) (λ of. of_answer (answered of.0 of.1 now (OfAccount name it))) (λ of db. Holds db name (answered of.0 of.1 now (OfAccount name it)).room)
      store old mid passed {Rest = IsReadable now (OfAccount name it)} new r (λ clean has readable. readable) does
  event_after (OfDevice name it) old mid new r passed does =
      serves_after {R = Devices} (λ devices db. HoldsDevices db devices) (IsReadable now (OfDevice name it)) OnlyDevices (λ devices. of_device_answer (device_answered devices (OfDevice name it))) (λ devices db. HoldsDevices db (device_answered devices (OfDevice name it)).devices)
      store old mid passed {Rest = IsReadable now (OfDevice name it)} new r (λ clean has readable. readable) does
