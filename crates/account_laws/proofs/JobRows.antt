-- The machine shows a job as it was told, and the rows that it shows can be spelled.
use Rattle.std.proofs.Common.{◌≡◌, ℕ, ◌+◌, ◌-◌, ◌≤◌, ◌==◌, max, min, Bool, true, false, cond, ◌&&◌, List, [], ◌++◌, map, length, length-append, Option, Some, None, refl, ap, ◌∙◌, arith, codes}
use Rattle.std.specs.Fmt.{decimal}
use Rattle.std.specs.Int.{to_be_bytes, w32}
use Rattle.std.specs.List.{AllByRecursion}
use Rattle.std.proofs.Math.Nat.{div-one}
use Rattle.ipp_coding.specs.Plain.{PlainAttribute, PlainGroup}
use Rattle.ipp_coding.specs.Spelling.{IsGroup}
use Rattle.account_laws.proofs.Digits.{decimal_few}
use Rattle.account_laws.proofs.ShownJobs.{job_shown}
use Rattle.account_laws.proofs.ShownRows.{◌&◌, IsSpelled, all_alike, as_row, group_spelled, is_writable, one_spelled, shown_alike, shown_spelled}
use Rattle.account_laws.specs.JobRows.{described, impressions_shown, job_rows, job_group_told, moment_shown, reason_shown, state_shown}
use Rattle.account_laws.specs.JobsTold.{JobTold, Stage, Waits, Prints, HasEnded, is_stopping}
use Rattle.account_laws.specs.ShownRows.{attributes_shown}
use Rattle.account_laws.specs.ShownValues.{enum, integer, keyword, unknown}
use Rattle.account_laws.specs.StagesTold.{count_told, ended_told, started_told, state_told}
use Rattle.account_laws.specs.StationAnswers.{is_waiting}
use Rattle.account_laws.specs.Views.{View, job_uri, queue_uri, seconds}
use Rattle.account_replies.specs.JobAttributes.{job_attributes, job_group, job_state_reason}
use Rattle.account_replies.specs.Places.{PlainPlace}
use Rattle.account_replies.specs.Times.{moment_values, up}
use Rattle.account_rules.specs.JobStates.{state_number}
use Rattle.account_rules.specs.declared.job.JobState.TheVariants.{Held}

abbrev pub place_of : View → PlainPlace
place_of view = record { base = view.base; name = view.account; opened = view.opened; now = view.now }

-- ---- what the machine shows is what was told

state_alike : (stage : Stage) → state_number (state_told stage) ≡ state_shown stage
state_alike (HasEnded Held count units since at) = refl
state_alike _ = refl

reason_alike : (stage : Stage) (is_open : Bool) → job_state_reason (state_told stage) (is_waiting stage && is_open) (is_stopping stage) ≡ reason_shown is_open stage
reason_alike Waits true = refl
reason_alike (Prints device rate units since true) is_open = refl
reason_alike (HasEnded Held count units since at) is_open = refl
reason_alike _ is_open = refl

from_one : (t : ℕ) → max 1 (min (t + 1) 2147483647) ≡ min (t + 1) 2147483647
from_one t = omega arith

pub seconds_alike : (view : View) (moment : ℕ) → up (place_of view) moment ≡ seconds view moment
seconds_alike view moment = from_one (moment - view.opened)

moment_alike : (view : View) (moment : Option ℕ) → moment_values (place_of view) moment ≡ moment_shown view moment
moment_alike view None = refl
moment_alike view (Some moment) = ap integer (seconds_alike view moment)

rows_alike : (view : View) (number : ℕ) (job : JobTold) → map (as_row (place_of view) (job_shown number job)) job_attributes ≡ job_rows view number job
unfolding job_attributes job_rows
rows_alike view number job =
    all_alike _ (job_rows view number job)
    (refl & refl & refl & refl & refl
    & ap (λ (state : ℕ). described (codes "job-state") (enum state)) (state_alike job.stage)
    & ap (λ (reason : List ℕ). described (codes "job-state-reasons") (keyword reason)) (reason_alike job.stage job.is_open)
    & refl & refl
    & ap (λ (count : ℕ). described (codes "job-impressions-completed") (integer count)) (div-one (count_told job.stage))
    & ap (λ (moment : ℕ). described (codes "time-at-creation") (integer moment)) (seconds_alike view job.made)
    & ap (described (codes "time-at-processing")) (moment_alike view (started_told job.stage))
    & ap (described (codes "time-at-completed")) (moment_alike view (ended_told job.stage))
    & ap (λ (moment : ℕ). described (codes "job-printer-up-time") (integer moment)) (seconds_alike view view.now)
    & refl & refl & refl & refl & tt)

pub job_group_alike : (view : View) (number : ℕ) (job : JobTold) (wanted : Option (List (List ℕ))) → job_group (place_of view) (job_shown number job) wanted ≡ job_group_told view wanted number job
job_group_alike view number job wanted =
    ap (λ (attributes : List PlainAttribute). let group : PlainGroup = record { tag = 0x02; attributes = attributes } in group)
    (shown_alike (place_of view) (job_shown number job) wanted job_attributes ∙ ap (attributes_shown wanted) (rows_alike view number job))

-- ---- they can be spelled

pub record IsWritable (view : View) : Type 0 where
  pub base : length view.base ≤ 1023
  pub account : length view.account ≤ 32

pub queue_fits : (view : View) → IsWritable view → length (queue_uri view) ≤ 2000
queue_fits view is = omega (arith, length-append view.base (codes "/ipp/print/" ++ view.account), length-append (codes "/ipp/print/") view.account, is.base, is.account)

job_fits : (view : View) (number : ℕ) → IsWritable view → length (job_uri view number) ≤ 32767
job_fits view number is = omega (arith, length-append (queue_uri view) (codes "/" ++ decimal number), length-append (codes "/") (decimal number), decimal_few number, queue_fits view is)

reason_fits : (is_open : Bool) (stage : Stage) → length (reason_shown is_open stage) ≤ 32767
reason_fits true Waits = omega arith
reason_fits is_open (Prints device rate units since true) = omega arith
reason_fits is_open (HasEnded Held count units since at) = omega arith
reason_fits is_open _ = omega arith

pub integer_fits : (n : ℕ) → length (to_be_bytes w32 n) ≤ 32767
integer_fits n = omega arith

impressions_spelled : (n : ℕ) → IsSpelled (described (codes "job-impressions") (impressions_shown n))
impressions_spelled n =
    elim (n == 0) as (λ (b : Bool). IsSpelled (described (codes "job-impressions") (cond b unknown (integer n)))) [
      | true ↦ one_spelled (codes "job-impressions") (codes "job-description") 0x12 [] refl (omega arith)
      | false ↦ one_spelled (codes "job-impressions") (codes "job-description") 0x21 (to_be_bytes w32 n) refl (integer_fits n)
    ]

moment_spelled : (view : View) (name : List ℕ) → is_writable name 0x10 ≡ true → (moment : Option ℕ) → IsSpelled (described name (moment_shown view moment))
moment_spelled view name writes None = one_spelled name (codes "job-description") 0x13 [] writes (omega arith)
moment_spelled view name writes (Some moment) = one_spelled name (codes "job-description") 0x21 _ writes (integer_fits (seconds view moment))

rows_spelled : (view : View) (number : ℕ) (job : JobTold) → IsWritable view → length job.maker.name ≤ 255 → AllByRecursion IsSpelled (job_rows view number job)
unfolding job_rows
rows_spelled view number job is name =
    let described_one = λ (name : List ℕ). one_spelled name (codes "job-description") in
    described_one (codes "job-uri") 0x45 _ refl (job_fits view number is)
    & described_one (codes "job-id") 0x21 _ refl (integer_fits number)
    & described_one (codes "job-printer-uri") 0x45 _ refl (omega (arith, queue_fits view is))
    & described_one (codes "job-name") 0x42 _ refl (omega (arith, name))
    & described_one (codes "job-originating-user-name") 0x42 _ refl (omega (arith, is.account))
    & described_one (codes "job-state") 0x23 _ refl (integer_fits (state_shown job.stage))
    & described_one (codes "job-state-reasons") 0x44 _ refl (reason_fits job.is_open job.stage)
    & described_one (codes "number-of-documents") 0x21 _ refl (integer_fits (length job.documents))
    & impressions_spelled job.impressions
    & described_one (codes "job-impressions-completed") 0x21 _ refl (integer_fits (count_told job.stage))
    & described_one (codes "time-at-creation") 0x21 _ refl (integer_fits (seconds view job.made))
    & moment_spelled view (codes "time-at-processing") refl (started_told job.stage)
    & moment_spelled view (codes "time-at-completed") refl (ended_told job.stage)
    & described_one (codes "job-printer-up-time") 0x21 _ refl (integer_fits (seconds view view.now))
    & described_one (codes "attributes-charset") 0x47 _ refl (omega arith)
    & described_one (codes "attributes-natural-language") 0x48 _ refl (omega arith)
    & one_spelled (codes "copies") (codes "job-template") 0x21 _ refl (integer_fits job.maker.copies)
    & one_spelled (codes "job-hold-until") (codes "job-template") 0x44 _ refl (omega arith)
    & tt

pub job_group_spelled : (view : View) (wanted : Option (List (List ℕ))) (number : ℕ) (job : JobTold) → IsWritable view → length job.maker.name ≤ 255 → IsGroup (job_group_told view wanted number job)
job_group_spelled view wanted number job is name = group_spelled 0x02 (attributes_shown wanted (job_rows view number job)) refl (shown_spelled wanted (job_rows view number job) (rows_spelled view number job is name))
