-- Rule: The table of job states: what each act makes of a job in each state, or the first refusal
-- (RFC 8011 sections 4.3 and 5.3.7; what a station does, and every refusal's word, is this
-- project's own).
use Rattle.std.specs.Prelude.{Result, Ok}
use Rattle.account_rules.specs.declared.job.JobState.{JobState}
use Rattle.account_rules.specs.declared.job.JobState.TheVariants.{Held, Pending, Processing, Canceled, Aborted, Completed}
use Rattle.account_rules.specs.declared.job.Standing.{Standing}
use Rattle.account_rules.specs.declared.refusal.Refusal.{Refusal}
use Rattle.account_rules.specs.declared.refusal.Word.TheVariants.{Closed, Ended, Printing, NotHeld, NotPending, NotProcessing}
use Rattle.account_rules.specs.Acts.{Act, SendDocument, CancelJob, HoldJob, ReleaseJob, StationRelease, StationStart, StationSettle}
use Rattle.account_rules.specs.Effects.{refused, after_document, after_cancel, after_stop, after_hold, after_release, after_station_release, after_start, after_settling}

-- the cells of an act: held, pending, processing, and ended in one way or another
abbrev pub cell : JobState
    → (held pending processing ended : Result Standing Refusal) → Result Standing Refusal
cell Held held pending processing ended = held
cell Pending held pending processing ended = pending
cell Processing held pending processing ended = processing
cell Canceled held pending processing ended = ended
cell Aborted held pending processing ended = ended
cell Completed held pending processing ended = ended

abbrev pub move : Act → Standing → Result Standing Refusal
move (SendDocument last some_data) s = cell s.state
    (after_document s last some_data)
    (refused Closed)
    (refused Closed)
    (refused Closed)
move (CancelJob now) s = cell s.state
    (Ok (after_cancel s now))
    (Ok (after_cancel s now))
    (after_stop s)
    (refused Ended)
move HoldJob s = cell s.state
    (Ok s)
    (Ok (after_hold s))
    (refused Printing)
    (refused Ended)
move (ReleaseJob has_password left) s = cell s.state
    (after_release s has_password left)
    (Ok s)
    (Ok s)
    (refused Ended)
move (StationRelease kept device given handed_in rate left) s = cell s.state
    (after_station_release s kept device given handed_in rate left)
    (refused NotHeld)
    (refused NotHeld)
    (refused NotHeld)
move (StationStart device rate now) s = cell s.state
    (refused NotPending)
    (after_start s device rate now)
    (refused NotPending)
    (refused NotPending)
move (StationSettle device completed failed now) s = cell s.state
    (refused NotProcessing)
    (refused NotProcessing)
    (after_settling s device completed failed now)
    (refused NotProcessing)
