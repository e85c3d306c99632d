-- Rule: Which attributes, places, jobs and printers can be shown (limits of this project's own, but
-- for a name's).
use Rattle.std.specs.Prelude.{ℕ, ◌*◌, ◌<◌, ◌≤◌, List, length, IfSome}
use Rattle.account_replies.specs.PrinterStates.{idle, stopped}
use Rattle.ipp_coding.specs.Spelling.{Fits}
use Rattle.account_rules.specs.declared.job.Job.{Job}
use Rattle.account_rules.specs.Limits.{IsMoment, last_job, longest_job_name, longest_uri, most_copies, most_documents, most_impressions, most_unfinished}
use Rattle.account_replies.specs.declared.printer.PrinterNow.{PrinterNow}
use Rattle.account_replies.specs.Places.{PlainPlace}

-- an attribute has a name, no longer than a name may be (RFC 8010 section 3.1.4)
pub record IsAttributeName (name : List ℕ) : Type 0 where
  pub named : 0 < length name
  pub fits : Fits name

-- the part of a target before its path is no longer than a target may be
pub record IsPlace (at : PlainPlace) : Type 0 where
  pub base : length at.base ≤ longest_uri
  pub opened : IsMoment at.opened
  pub moment : IsMoment at.now

-- the numbers, texts and moments of a job lie within their limits
pub record IsShowable (job : Job) : Type 0 where
  pub number : 1 ≤ job.job
  pub numbered : job.job ≤ last_job
  pub name : length job.name ≤ longest_job_name
  pub copies : job.standing.copies ≤ most_copies
  pub impressions : job.standing.impressions ≤ most_impressions
  pub rate : 1 ≤ job.standing.rate
  pub charged : job.standing.charged ≤ most_impressions * job.standing.rate
  pub documents : job.standing.documents ≤ most_documents
  pub created : IsMoment job.standing.created
  pub started : IfSome job.standing.started IsMoment
  pub ended : IfSome job.standing.ended IsMoment

-- the state is one of the three, and an account has few jobs that have not ended
pub record IsPrinter (printer : PrinterNow) : Type 0 where
  pub low : idle ≤ printer.state
  pub high : printer.state ≤ stopped
  pub queued : printer.queued ≤ most_unfinished
