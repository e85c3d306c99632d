-- How a job stands, by what was done to it (all this project's own).
use Rattle.std.specs.Prelude.{ℕ, ◌*◌, ◌==◌, Bool, true, false, not, if◌then◌else◌, List, [], ◌∷◌, ◌++◌, length, Option, Some, None}
use Rattle.account_asks.specs.Asks.{PlainAsk}
use Rattle.account_asks.specs.declared.operation.Operation.{Operation}
use Rattle.account_asks.specs.declared.operation.Operation.TheVariants.{PrintJob}
use Rattle.account_rules.specs.declared.format.Format.{Format}
use Rattle.account_rules.specs.declared.job.JobState.{JobState}
use Rattle.account_rules.specs.declared.job.JobState.TheVariants.{Canceled, Aborted, Completed}

-- a document as it was sent
pub record Sent : Type 0 where
  pub format : Format
  pub bytes : List ℕ

pub data Stage : Type 0 where
  -- the job waits to be released
  Waits : Stage
  -- it was released, for this device or for any, at this rate; so many units are reserved for it
  IsFree : (device : Option (List ℕ)) (rate units : ℕ) → Stage
  -- this device prints it since then; it was canceled meanwhile, or was not
  Prints : (device : List ℕ) (rate units since : ℕ) (is_canceled : Bool) → Stage
  -- it ended so and then; so many impressions were counted and so many units charged, where a
  -- device began it, at that moment
  HasEnded : (how : JobState) (count units : ℕ) (since : Option ℕ) (at : ℕ) → Stage

pub record JobTold : Type 0 where
  -- the request that made it, and when
  pub maker : PlainAsk
  pub made : ℕ
  -- what was sent for it, in order, and whether more may come
  pub documents : List Sent
  pub is_open : Bool
  -- the impressions of one copy, 0 where nobody said
  pub impressions : ℕ
  -- the device that it was released for or that began it, and the rate of its release; none and 1
  -- where nobody released it, or a hold took that back
  pub device : Option (List ℕ)
  pub rate : ℕ
  pub stage : Stage

-- ---- documents

abbrev pub sent_by : PlainAsk → Sent
sent_by ask = record { format = ask.format; bytes = ask.payload }

-- a Print-Job brings its one document, also an empty one (RFC 8011 section 4.2.1)
abbrev pub brought_first : PlainAsk → Operation → List Sent
brought_first ask PrintJob = sent_by ask ∷ []
brought_first ask _ = []

abbrev pub is_left_open : Operation → Bool
is_left_open PrintJob = false
is_left_open _ = true

-- a Send-Document brings one, unless it has no data (section 4.3.1)
abbrev pub brought_next : PlainAsk → List Sent
brought_next ask = if length ask.payload == 0 then [] else sent_by ask ∷ []

-- ---- what each deed makes of the job that it names

abbrev pub job_made : (now : ℕ) (ask : PlainAsk) → JobTold
job_made now ask = record {
  maker = ask;
  made = now;
  documents = brought_first ask ask.operation;
  is_open = is_left_open ask.operation;
  impressions = ask.impressions;
  device = None;
  rate = 1;
  stage = Waits;
}

abbrev pub job_brought : PlainAsk → JobTold → JobTold
job_brought ask job =
    record job { documents = job.documents ++ brought_next ask; is_open = not ask.last }

-- a job that a device prints ends when that settles it
abbrev pub stage_canceled : (now : ℕ) → Stage → Stage
stage_canceled now Waits = HasEnded Canceled 0 0 None now
stage_canceled now (IsFree device rate units) = HasEnded Canceled 0 0 None now
stage_canceled now (Prints device rate units since is_canceled) =
    Prints device rate units since true
stage_canceled now (HasEnded how count units since at) = HasEnded how count units since at

abbrev pub job_canceled : (now : ℕ) → JobTold → JobTold
job_canceled now job = record job { stage = stage_canceled now job.stage }

-- its release is taken back, with its device and its rate
abbrev pub stage_held : Stage → Stage
stage_held (IsFree device rate units) = Waits
stage_held stage = stage

abbrev pub job_held : JobTold → JobTold
job_held job = record job { device = None; rate = 1; stage = stage_held job.stage }

-- one that waits is released, and what it needs is reserved; any other stays as it is
abbrev pub stage_released : (device : Option (List ℕ)) (rate units : ℕ) → Stage → Stage
stage_released device rate units Waits = IsFree device rate units
stage_released device rate units stage = stage

-- what it needs: impressions times copies times rate
abbrev pub need_told : (impressions rate : ℕ) → JobTold → ℕ
need_told impressions rate job = impressions * job.maker.copies * rate

-- over IPP for any device and at rate 1, which one that waits has already
abbrev pub job_freed : JobTold → JobTold
job_freed job =
    record job { stage = stage_released None 1 (need_told job.impressions 1 job) job.stage }

-- what a station hands in counts from then on, unless it is none
abbrev pub impressions_told : (handed_in : ℕ) → JobTold → ℕ
impressions_told handed_in job = if handed_in == 0 then job.impressions else handed_in

-- at a station for its device, at the rate of that
abbrev pub job_released : (device : List ℕ) (rate handed_in : ℕ) → JobTold → JobTold
job_released device rate handed_in job =
    let impressions = impressions_told handed_in job in
    record job {
      impressions = impressions;
      device = Some device;
      rate = rate;
      stage = stage_released (Some device) rate (need_told impressions rate job) job.stage;
    }

abbrev pub stage_started : (device : List ℕ) (now : ℕ) → Stage → Stage
stage_started device now (IsFree for rate units) = Prints device rate units now false
stage_started device now stage = stage

-- the device has it from then on
abbrev pub job_started : (device : List ℕ) (now : ℕ) → JobTold → JobTold
job_started device now job =
    record job { device = Some device; stage = stage_started device now job.stage }

-- canceled, failed or done (RFC 8011 section 5.3.7)
abbrev pub end_told : (is_canceled failed : Bool) → JobState
end_told true failed = Canceled
end_told false true = Aborted
end_told false false = Completed

-- what the device counted is charged, at the rate of the release
abbrev pub stage_settled : (count : ℕ) (failed : Bool) (now : ℕ) → Stage → Stage
stage_settled count failed now (Prints device rate units since is_canceled) =
    HasEnded (end_told is_canceled failed) count (count * rate) (Some since) now
stage_settled count failed now stage = stage

abbrev pub job_settled : (count : ℕ) (failed : Bool) (now : ℕ) → JobTold → JobTold
job_settled count failed now job =
    record job { stage = stage_settled count failed now job.stage }

-- ---- units

-- those that are held for a job, from its release until it is held, canceled or settled
abbrev pub units_held : Stage → ℕ
units_held Waits = 0
units_held (IsFree device rate units) = units
units_held (Prints device rate units since is_canceled) = units
units_held (HasEnded how count units since at) = 0

abbrev pub units_reserved : JobTold → ℕ
units_reserved job = units_held job.stage

-- those that it was charged
abbrev pub units_taken : Stage → ℕ
units_taken (HasEnded how count units since at) = units
units_taken _ = 0

abbrev pub units_charged : JobTold → ℕ
units_charged job = units_taken job.stage

-- ---- jobs that have not ended

abbrev pub is_over : Stage → Bool
is_over (HasEnded how count units since at) = true
is_over _ = false

-- ---- jobs that are printed, and those of them that were canceled meanwhile

abbrev pub is_printing : Stage → Bool
is_printing (Prints device rate units since is_canceled) = true
is_printing _ = false

abbrev pub is_stopping : Stage → Bool
is_stopping (Prints device rate units since is_canceled) = is_canceled
is_stopping _ = false
