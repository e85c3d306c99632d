-- Rule: The attributes that a job shows (RFC 8011 sections 5.2 and 5.3).
use Rattle.std.specs.Prelude.{ℕ, ◌/◌, Bool, ◌==◌, if◌then◌else◌, List, [], ◌∷◌, Option, codes}
use Rattle.account_rules.specs.declared.job.Job.{Job}
use Rattle.account_rules.specs.declared.job.Standing.{Standing}
use Rattle.account_rules.specs.declared.job.JobState.{JobState}
use Rattle.account_rules.specs.declared.job.JobState.TheVariants.{Held, Pending, Processing, Canceled, Aborted, Completed}
use Rattle.account_rules.specs.JobStates.{state_number}
use Rattle.ipp_coding.specs.Plain.{PlainValue, PlainGroup}
use Rattle.account_replies.specs.Attributes.{integer, enum, plain_name, keyword, uri, charset, language, unknown}
use Rattle.account_replies.specs.Places.{PlainPlace, printer_uri, job_uri}
use Rattle.account_replies.specs.Times.{up, moment_values}
use Rattle.account_replies.specs.Tables.{ShownRow, shown}

-- job-state-reasons (RFC 8011 section 5.3.8), of a job in the state, open or not, to be stopped or
-- not
abbrev pub job_state_reason : JobState → (is_open stopping : Bool) → List ℕ
job_state_reason Held is_open stopping =
    if is_open then codes "job-incoming" else codes "job-hold-until-specified"
job_state_reason Pending is_open stopping = codes "none"
job_state_reason Processing is_open stopping =
    if stopping then codes "processing-to-stop-point" else codes "job-printing"
job_state_reason Canceled is_open stopping = codes "job-canceled-by-user"
job_state_reason Aborted is_open stopping = codes "aborted-by-system"
job_state_reason Completed is_open stopping = codes "job-completed-successfully"

-- 0 impressions are not known (this project's own)
abbrev pub impressions_values : ℕ → List PlainValue
impressions_values impressions =
    if impressions == 0 then unknown else integer impressions

abbrev pub reason_values : Standing → List PlainValue
reason_values standing =
    keyword (job_state_reason standing.state standing.is_open standing.stopping)

-- the units charged, at so many an impression (RFC 8011 section 5.3.18.2)
abbrev pub completed_values : Standing → List PlainValue
completed_values standing = integer (standing.charged / standing.rate)

abbrev pub described : (name : List ℕ) (values : PlainPlace → Job → List PlainValue) → ShownRow Job
described name values = record { name = name; group = codes "job-description"; values = values }

abbrev pub templated : (name : List ℕ) (values : PlainPlace → Job → List PlainValue) → ShownRow Job
templated name values = record { name = name; group = codes "job-template"; values = values }

unfoldable pub job_attributes : List (ShownRow Job)
job_attributes =
    described (codes "job-uri") (λ at job. uri (job_uri at job.job))
    ∷ described (codes "job-id") (λ at job. integer job.job)
    ∷ described (codes "job-printer-uri") (λ at job. uri (printer_uri at))
    ∷ described (codes "job-name") (λ at job. plain_name job.name)
    ∷ described (codes "job-originating-user-name") (λ at job. plain_name at.name)
    ∷ described (codes "job-state") (λ at job. enum (state_number job.standing.state))
    ∷ described (codes "job-state-reasons") (λ at job. reason_values job.standing)
    ∷ described (codes "number-of-documents") (λ at job. integer job.standing.documents)
    ∷ described (codes "job-impressions") (λ at job. impressions_values job.standing.impressions)
    ∷ described (codes "job-impressions-completed") (λ at job. completed_values job.standing)
    ∷ described (codes "time-at-creation") (λ at job. integer (up at job.standing.created))
    ∷ described (codes "time-at-processing") (λ at job. moment_values at job.standing.started)
    ∷ described (codes "time-at-completed") (λ at job. moment_values at job.standing.ended)
    ∷ described (codes "job-printer-up-time") (λ at job. integer (up at at.now))
    ∷ described (codes "attributes-charset") (λ at job. charset (codes "utf-8"))
    ∷ described (codes "attributes-natural-language") (λ at job. language (codes "en"))
    ∷ templated (codes "copies") (λ at job. integer job.standing.copies)
    ∷ templated (codes "job-hold-until") (λ at job. keyword (codes "indefinite"))
    ∷ []

-- the group of a job, with the attributes of it that are wanted
abbrev pub job_group : (at : PlainPlace) (job : Job) (wanted : Option (List (List ℕ))) → PlainGroup
job_group at job wanted = record { tag = 0x02; attributes = shown job_attributes wanted at job }
