-- Rule: What each act makes of a job in a state in which it has an effect, or the first refusal. A
-- field that is not named stays as it is. What has no section of RFC 8011 beside it is this
-- project's own.
use Rattle.std.specs.Prelude.{ℕ, ◌+◌, ◌*◌, ℤ, Bool, true, false, ◌&&◌, ◌||◌, not, ◌==◌, nat_lt, nat_le, if◌then◌else◌, List, length, Option, Some, None, is_none, Result, Ok, Err, bytes_eq}
use Rattle.account_rules.specs.declared.job.JobState.{JobState}
use Rattle.account_rules.specs.declared.job.JobState.TheVariants.{Held, Pending, Processing, Canceled, Aborted, Completed}
use Rattle.account_rules.specs.declared.job.Standing.{Standing}
use Rattle.account_rules.specs.declared.refusal.Refusal.{Refusal}
use Rattle.account_rules.specs.declared.refusal.Word.{Word}
use Rattle.account_rules.specs.declared.refusal.Word.TheVariants.{TooManyDocuments, Closed, Stopping, Incomplete, Password, ImpressionsUnknown, Quota, OtherDevice, Rate}
use Rattle.account_rules.specs.Limits.{most_documents}
use Rattle.account_rules.specs.Quota.{need_of, exceeds}

-- client-error-not-possible (RFC 8011 section B.1.4.5)
abbrev pub refused : Word → Result Standing Refusal
refused word = Err (record { status = 0x0404; word = word })

-- server-error-multiple-document-jobs-not-supported (RFC 8011 section B.1.5.10) is the status for a
-- document too many (this project's choice)
abbrev pub refused_document : Result Standing Refusal
refused_document = Err (record { status = 0x0509; word = TooManyDocuments })

-- Send-Document (RFC 8011 section 4.3.1): the last document closes the job
abbrev pub after_document : (s : Standing) (last some_data : Bool) → Result Standing Refusal
after_document s last some_data =
    if not s.is_open then refused Closed else
    if not some_data then Ok (record s { is_open = not last }) else
    if nat_le most_documents s.documents then refused_document else
    Ok (record s { is_open = not last; documents = s.documents + 1 })

-- Cancel-Job (RFC 8011 section 4.3.3) before printing: nothing is charged
abbrev pub after_cancel : (s : Standing) (now : ℕ) → Standing
after_cancel s now = record s { state = Canceled; is_open = false; reserved = 0; ended = Some now }

-- Cancel-Job while the job is processing asks it to stop (RFC 8011 section 5.3.8,
-- processing-to-stop-point): its device is still to settle
abbrev pub after_stop : Standing → Result Standing Refusal
after_stop s = if s.stopping then refused Stopping else Ok (record s { stopping = true })

-- Hold-Job (RFC 8011 section 4.3.5) takes the release back, with the units that it took
abbrev pub after_hold : Standing → Standing
after_hold s = record s { state = Held; reserved = 0; rate = 1; device = None }

-- a release takes what it needs of the quota, where so much is left
abbrev pub after_reserving : (s : Standing) (impressions rate : ℕ)
    (device : Option (List ℕ)) (left : ℤ) → Result Standing Refusal
after_reserving s impressions rate device left =
    if impressions == 0 then refused ImpressionsUnknown else
    if exceeds (need_of impressions s.copies rate) left
    then refused (Quota (need_of impressions s.copies rate) left) else
    Ok (record s {
      state = Pending;
      impressions = impressions;
      reserved = need_of impressions s.copies rate;
      rate = rate;
      device = device;
    })

-- a job can be printed once it is closed and has a document
abbrev pub is_incomplete : Standing → Bool
is_incomplete s = s.is_open || s.documents == 0

-- Release-Job (RFC 8011 section 4.3.6) reserves at rate 1 and binds no device. A job with a
-- password is released at a station alone.
abbrev pub after_release : (s : Standing) (has_password : Bool) (left : ℤ) → Result Standing Refusal
after_release s has_password left =
    if is_incomplete s then refused Incomplete else
    if has_password then refused Password else
    after_reserving s s.impressions 1 None left

-- an empty one is none
abbrev pub is_wrong_password : (kept given : List ℕ) → Bool
is_wrong_password kept given = not (length kept == 0) && not (bytes_eq kept given)

-- what a station hands in stands above what the owner said
abbrev pub impressions_of : (s : Standing) (handed_in : ℕ) → ℕ
impressions_of s handed_in = if nat_lt 0 handed_in then handed_in else s.impressions

-- a release at a station reserves at its device's rate and binds the job to the device
abbrev pub after_station_release : (s : Standing) (kept device given : List ℕ)
    (handed_in rate : ℕ) (left : ℤ) → Result Standing Refusal
after_station_release s kept device given handed_in rate left =
    if is_incomplete s then refused Incomplete else
    if is_wrong_password kept given then refused Password else
    after_reserving s (impressions_of s handed_in) rate (Some device) left

abbrev pub is_bound_elsewhere : (bound : Option (List ℕ)) (device : List ℕ) → Bool
is_bound_elsewhere None device = false
is_bound_elsewhere (Some bound) device = not (bytes_eq bound device)

-- what was released over IPP is printed at rate 1 alone
abbrev pub after_start : (s : Standing) (device : List ℕ) (rate now : ℕ) → Result Standing Refusal
after_start s device rate now =
    if is_bound_elsewhere s.device device then refused OtherDevice else
    if is_none s.device && not (rate == 1) then refused Rate else
    Ok (record s { state = Processing; device = Some device; started = Some now })

-- the state in which a job ends (RFC 8011 section 5.3.7): it was canceled, or failed, or is done
abbrev pub end_of : (stopping failed : Bool) → JobState
end_of true failed = Canceled
end_of false true = Aborted
end_of false false = Completed

-- settling charges what the device completed, all copies included, at the job's rate
abbrev pub after_settling : (s : Standing) (device : List ℕ) (completed : ℕ)
    (failed : Bool) (now : ℕ) → Result Standing Refusal
after_settling s device completed failed now =
    if is_bound_elsewhere s.device device then refused OtherDevice else
    Ok (record s {
      state = end_of s.stopping failed;
      is_open = false;
      reserved = 0;
      charged = completed * s.rate;
      ended = Some now;
    })
