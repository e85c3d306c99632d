-- Rule: The states of a job (RFC 8011 section 5.3.7).
use Rattle.std.specs.Prelude.{ℕ, Bool, true, false, not}
use Rattle.account_rules.specs.declared.job.JobState.{JobState}
use Rattle.account_rules.specs.declared.job.JobState.TheVariants.{Held, Pending, Processing, Canceled, Aborted, Completed}

-- the enum value of job-state
abbrev pub state_number : JobState → ℕ
state_number Pending = 3
state_number Held = 4
state_number Processing = 5
state_number Canceled = 7
state_number Aborted = 8
state_number Completed = 9

abbrev pub is_unfinished : JobState → Bool
is_unfinished Held = true
is_unfinished Pending = true
is_unfinished Processing = true
is_unfinished Canceled = false
is_unfinished Aborted = false
is_unfinished Completed = false

-- canceled, aborted or completed
abbrev pub has_ended : JobState → Bool
has_ended state = not (is_unfinished state)

-- a device is printing it
abbrev pub is_processing : JobState → Bool
is_processing Held = false
is_processing Pending = false
is_processing Processing = true
is_processing Canceled = false
is_processing Aborted = false
is_processing Completed = false

-- it holds what a release took of the quota
abbrev pub is_released : JobState → Bool
is_released Held = false
is_released Pending = true
is_released Processing = true
is_released Canceled = false
is_released Aborted = false
is_released Completed = false
