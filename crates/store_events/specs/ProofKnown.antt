-- For the proof of the code alone: what the reads before have shown of an account.
use Rattle.std.specs.Prelude.{◌≡◌, ℕ, ◌+◌, Bool, true, if◌then◌else◌, List, Option, Result, Ok}
use Rattle.sqlite.specs.Effect.{Database}
use Rattle.account_rules.specs.JobStates.{is_unfinished}
use Rattle.account_replies.specs.Stations.{ready_device}
use Rattle.account_machine.specs.Steps.{and_then, with_moved}
use Rattle.account_rules.specs.declared.device.Device.{Device}
use Rattle.account_rules.specs.declared.job.Job.{Job}
use Rattle.account_rules.specs.declared.job.Standing.{Standing}
use Rattle.account_rules.specs.declared.refusal.Word.{Word}
use Rattle.account_state.specs.Rooms.{RoomValue}
use Rattle.rows_statements.specs.Alone.{OnlyAccount}
use Rattle.rows_tables.specs.Accounts.{HoldsRoom}
use Rattle.store_rounds.specs.ProofKnown.{HasJobRow}

-- what stands otherwise of a job whose row is there: its room has it so, and nobody else's rows
-- change
pub record StandsJob (name : List ℕ) (job : Job) (standing : Standing) (before after : Database)
    : Type 0 where
  pub room : HasJobRow name job before → (room : RoomValue) → HoldsRoom before name room
      → HoldsRoom after name (with_moved room job.job standing)
  pub alone : HasJobRow name job before → OnlyAccount name before after

-- the units that an impression counts on a device that takes jobs
abbrev pub ready_rate : (device : Option Device) → Result ℕ Word
ready_rate device = and_then (ready_device device) (λ (ready : Device). Ok ready.rate)

-- an unfinished job that stays so takes one document more where there is data
pub record TakesDocument (has_data : Bool) (before after : Standing) : Type 0 where
  pub was_unfinished : is_unfinished before.state ≡ true
  pub stays_unfinished : is_unfinished after.state ≡ true
  pub documents : after.documents ≡ before.documents + (if has_data then 1 else 0)
