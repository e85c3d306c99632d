-- Rule: A job as it is made (RFC 8011 sections 4.2.1 and 4.2.4; that it waits to be released is
-- this project's own).
use Rattle.std.specs.Prelude.{ℕ, ◌≤◌, Bool, not, if◌then◌else◌, false, None}
use Rattle.account_rules.specs.Limits.{most_copies, most_impressions}
use Rattle.account_rules.specs.declared.job.JobState.TheVariants.{Held}
use Rattle.account_rules.specs.declared.job.Standing.{Standing}

-- Print-Job brings the job's one document, Create-Job leaves the job open for some
abbrev pub fresh : (is_print_job : Bool) (copies impressions now : ℕ) → Standing
fresh is_print_job copies impressions now = record {
  state = Held;
  is_open = not is_print_job;
  stopping = false;
  copies = copies;
  impressions = impressions;
  reserved = 0;
  charged = 0;
  documents = if is_print_job then 1 else 0;
  rate = 1;
  device = None;
  created = now;
  started = None;
  ended = None;
}

-- what a request may ask for
pub record CanMake (copies impressions : ℕ) : Type 0 where
  pub copies_from_one : 1 ≤ copies
  pub copies_at_most : copies ≤ most_copies
  pub impressions_at_most : impressions ≤ most_impressions
