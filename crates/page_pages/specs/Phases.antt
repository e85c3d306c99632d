-- Rule: How a job stands, as its owner is told.
use Rattle.std.specs.Prelude.{ℕ, ◌==◌, Bool, true, false, not, if◌then◌else◌, length, List, codes}
use Rattle.account_rules.specs.Effects.{is_incomplete}
use Rattle.account_rules.specs.declared.job.Job.{Job}
use Rattle.account_rules.specs.declared.job.JobState.{JobState}
use Rattle.account_rules.specs.declared.job.JobState.TheVariants as state
use Rattle.account_rules.specs.declared.job.Standing.{Standing}
use Rattle.page_pages.specs.declared.phase.Phase.{Phase}
use Rattle.page_pages.specs.declared.phase.Phase.TheVariants.{Incomplete, Locked, Uncounted, Ready, Released, Printing, Stopping, Printed, Canceled, Failed}
use Rattle.page_pages.specs.declared.texts.TheConstants.{CANCELED, FAILED, HELD, IS_INCOMPLETE, IS_LOCKED, IS_PRINTING, IS_READY, IS_RELEASED, IS_STOPPING, IS_UNCOUNTED, NOTHING, PRINTED, PRINTING, RELEASED, STOPPING}

-- in the order in which a release is refused
abbrev pub held_phase : (s : Standing) (password : List ℕ) → Phase
held_phase s password =
    if is_incomplete s then Incomplete else
    if not (length password == 0) then Locked else
    if s.impressions == 0 then Uncounted else Ready

abbrev pub printing_phase : (stopping : Bool) → Phase
printing_phase true = Stopping
printing_phase false = Printing

abbrev pub phase_in : JobState → (held device_has : Phase) → Phase
phase_in state.Held held device_has = held
phase_in state.Pending held device_has = Released
phase_in state.Processing held device_has = device_has
phase_in state.Canceled held device_has = Canceled
phase_in state.Aborted held device_has = Failed
phase_in state.Completed held device_has = Printed

abbrev pub phase_of : Job → Phase
phase_of job = phase_in job.standing.state
    (held_phase job.standing job.password)
    (printing_phase job.standing.stopping)

abbrev pub word : Phase → List ℕ
word Incomplete = HELD.now
word Locked = HELD.now
word Uncounted = HELD.now
word Ready = HELD.now
word Released = RELEASED.now
word Printing = PRINTING.now
word Stopping = STOPPING.now
word Printed = PRINTED.now
word Canceled = CANCELED.now
word Failed = FAILED.now

-- of a job that waits; one that ended needs none
abbrev pub sentence : Phase → List ℕ
sentence Incomplete = IS_INCOMPLETE.now
sentence Locked = IS_LOCKED.now
sentence Uncounted = IS_UNCOUNTED.now
sentence Ready = IS_READY.now
sentence Released = IS_RELEASED.now
sentence Printing = IS_PRINTING.now
sentence Stopping = IS_STOPPING.now
sentence Printed = NOTHING.now
sentence Canceled = NOTHING.now
sentence Failed = NOTHING.now

-- the name of the sign that is drawn for the phase
abbrev pub sign : Phase → List ℕ
sign Incomplete = codes "open"
sign Locked = codes "lock"
sign Uncounted = codes "held"
sign Ready = codes "held"
sign Released = codes "released"
sign Printing = codes "printing"
sign Stopping = codes "stopping"
sign Printed = codes "done"
sign Canceled = codes "canceled"
sign Failed = codes "failed"
