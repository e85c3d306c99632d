-- How an account stands, by what was done (all this project's own).
use Rattle.std.specs.Prelude.{not, count_by, ℕ, ◌+◌, Bool, List, fold, Option, Some, None, ℤ, pos, ◌-ℤ◌, if◌then◌else◌, nat_le, unwrap_or}
use Rattle.std.specs.FinMap.{FinMap, empty, entries, get, insert, values}
use Rattle.std.specs.List.{sum_by}
use Rattle.std.specs.Option.{option_map_or}
use Rattle.std.specs.Ordering.{nat_cmp}
use Rattle.account_laws.specs.Deeds.{Deed, Opened, Made, Brought, Canceled, HeldBack, Freed, Released, Started, Settled, Granted, Switched, Rated, NoDeed, deed_of, moment_of}
use Rattle.account_laws.specs.JobsTold.{JobTold, is_over, job_brought, job_canceled, job_freed, job_held, job_made, job_released, job_settled, job_started, units_charged, units_reserved}
use Rattle.account_lives.specs.Lives.{Exchange, Life}
use Rattle.account_rules.specs.Devices.{name_cmp}
use Rattle.account_rules.specs.Months.{month_at}

pub record AccountTold : Type 0 where
  -- when it was opened, if it was
  pub opened : Option ℕ
  -- its jobs by their numbers, and the number of the next
  pub jobs : FinMap nat_cmp JobTold
  pub next : ℕ
  -- the pages of each month
  pub grants : FinMap nat_cmp ℕ
  -- which devices are known, and on; and at which rate, where one was set
  pub on : FinMap name_cmp Bool
  pub rates : FinMap name_cmp ℕ

-- before anything was told
abbrev pub nothing_told : AccountTold
nothing_told = record {
  opened = None;
  jobs = empty;
  next = 1;
  grants = empty;
  on = empty;
  rates = empty;
}

-- an impression counts one unit on a device of which no rate was set
abbrev pub rate_told : (told : AccountTold) (device : List ℕ) → ℕ
rate_told told device = unwrap_or (get told.rates device) 1

-- ---- deed by deed

abbrev pub with_job : (told : AccountTold) (number : ℕ) (change : JobTold → JobTold) → AccountTold
with_job told number change =
    option_map_or
    (λ (job : JobTold). record told { jobs = insert told.jobs number (change job) })
    (get told.jobs number)
    told

abbrev pub after_deed : (now : ℕ) (told : AccountTold) → Deed → AccountTold
after_deed now told Opened = record told { opened = Some now }
after_deed now told (Made ask) =
    record told { jobs = insert told.jobs told.next (job_made now ask); next = told.next + 1 }
after_deed now told (Brought ask) = with_job told ask.job (job_brought ask)
after_deed now told (Canceled number) = with_job told number (job_canceled now)
after_deed now told (HeldBack number) = with_job told number job_held
after_deed now told (Freed number) = with_job told number job_freed
after_deed now told (Released device number impressions) =
    with_job told number (job_released device (rate_told told device) impressions)
after_deed now told (Started device number) = with_job told number (job_started device now)
after_deed now told (Settled device number impressions failed) =
    with_job told number (job_settled impressions failed now)
after_deed now told (Granted month pages) =
    record told { grants = insert told.grants month pages }
after_deed now told (Switched device on) = record told { on = insert told.on device on }
after_deed now told (Rated device units) = record told { rates = insert told.rates device units }
after_deed now told NoDeed = told

abbrev pub after_exchange : (told : AccountTold) → Exchange → AccountTold
after_exchange told x = after_deed (moment_of x) told (deed_of x)

-- by all that a life tells
abbrev pub account_told : Life → AccountTold
account_told life = fold after_exchange nothing_told life

-- jobs that have not ended
abbrev pub unfinished_told : AccountTold → ℕ
unfinished_told told =
    count_by (λ (job : JobTold). not (is_over job.stage)) (values told.jobs)

-- ---- the account of the quota

-- what was granted for the months up to the given one
abbrev pub pages_up_to : (month : ℕ) (grant : ℕ × ℕ) → ℕ
pages_up_to month grant = if nat_le grant.0 month then grant.1 else 0

abbrev pub granted_told : (told : AccountTold) (month : ℕ) → ℕ
granted_told told month = sum_by (pages_up_to month) (entries told.grants)

-- what all its jobs have reserved, and were charged
abbrev pub reserved_told : AccountTold → ℕ
reserved_told told = sum_by units_reserved (values told.jobs)

abbrev pub charged_told : AccountTold → ℕ
charged_told told = sum_by units_charged (values told.jobs)

-- what is left at a moment; below zero where more was charged
abbrev pub left_told : (told : AccountTold) (now : ℕ) → ℤ
left_told told now =
    (pos (granted_told told (month_at now)) -ℤ pos (reserved_told told)) -ℤ pos (charged_told told)
