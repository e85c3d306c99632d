-- The groups of jobs or of the printer that a request that is done is answered with, by what was
-- told before it (RFC 8011 sections 4.2 and 4.3).
use Rattle.std.specs.Prelude.{ℕ, List, [], ◌∷◌, map, Option, Some, None, codes}
use Rattle.std.specs.FinMap.{get}
use Rattle.std.specs.Option.{option_map_or}
use Rattle.ipp_coding.specs.Plain.{PlainGroup}
use Rattle.account_asks.specs.Asks.{PlainAsk}
use Rattle.account_asks.specs.declared.operation.Operation.{Operation}
use Rattle.account_asks.specs.declared.operation.Operation.TheVariants.{PrintJob, ValidateJob, CreateJob, SendDocument, CancelJob, GetJobAttributes, GetJobs, GetPrinterAttributes, HoldJob, ReleaseJob}
use Rattle.account_laws.specs.AccountsTold.{AccountTold}
use Rattle.account_laws.specs.JobRows.{job_group_told}
use Rattle.account_laws.specs.JobsTold.{JobTold, job_brought, job_made}
use Rattle.account_laws.specs.ListedJobs.{Numbered, jobs_listed}
use Rattle.account_laws.specs.PrinterRows.{printer_group_told}
use Rattle.account_laws.specs.Views.{View, view_of}

-- what is told of a job that was made, or that was brought a document (sections 4.2.1.2 and
-- 4.3.1.2)
abbrev pub made_names : Option (List (List ℕ))
made_names =
    Some (codes "job-uri" ∷ codes "job-id" ∷ codes "job-state" ∷ codes "job-state-reasons" ∷ [])

-- Get-Jobs tells these of each job, unless others are wanted (section 4.2.6.1)
abbrev pub or_listed_names : Option (List (List ℕ)) → Option (List (List ℕ))
or_listed_names None = Some (codes "job-uri" ∷ codes "job-id" ∷ [])
or_listed_names (Some names) = Some names

-- the group of the job that a request names
abbrev pub its_group :
    (told : AccountTold) (number : ℕ) (group : JobTold → PlainGroup) → List PlainGroup
its_group told number group =
    option_map_or (λ (job : JobTold). group job ∷ []) (get told.jobs number) []

-- By its operation: the job that was made, that was brought a document or that is asked for; the
-- jobs that are asked for; the printer; or none.
abbrev pub groups_shown : (view : View) (told : AccountTold) (ask : PlainAsk) → Operation
    → List PlainGroup
groups_shown view told ask PrintJob =
    job_group_told view made_names told.next (job_made view.now ask) ∷ []
groups_shown view told ask CreateJob =
    job_group_told view made_names told.next (job_made view.now ask) ∷ []
groups_shown view told ask SendDocument =
    its_group told ask.job (λ (job : JobTold).
    job_group_told view made_names ask.job (job_brought ask job))
groups_shown view told ask GetJobAttributes =
    its_group told ask.job (λ (job : JobTold). job_group_told view ask.wanted ask.job job)
groups_shown view told ask GetJobs =
    map
    (λ (job : Numbered). job_group_told view (or_listed_names ask.wanted) job.0 job.1)
    (jobs_listed ask.which ask.limit told)
groups_shown view told ask GetPrinterAttributes =
    printer_group_told view ask.wanted told ∷ []
groups_shown view told ask ValidateJob = []
groups_shown view told ask CancelJob = []
groups_shown view told ask HoldJob = []
groups_shown view told ask ReleaseJob = []

abbrev pub groups_told :
    (told : AccountTold) (account : List ℕ) (now : ℕ) (ask : PlainAsk) → Operation
    → List PlainGroup
groups_told told account now ask operation =
    groups_shown (view_of told now account ask) told ask operation
