-- The attributes that a job shows, as it was told (RFC 8011 sections 5.2 and 5.3).
use Rattle.std.specs.Prelude.{ℕ, ◌==◌, Bool, true, false, if◌then◌else◌, List, [], ◌∷◌, length, Option, Some, None, codes}
use Rattle.ipp_coding.specs.Plain.{PlainGroup, PlainValue}
use Rattle.account_laws.specs.JobsTold.{JobTold, Stage, Waits, IsFree, Prints, HasEnded}
use Rattle.account_laws.specs.ShownRows.{Row, attributes_shown, templated}
use Rattle.account_laws.specs.ShownValues.{charset, enum, integer, keyword, language, name_without_language, no_value, unknown, uri}
use Rattle.account_laws.specs.StagesTold.{count_told, ended_told, started_told}
use Rattle.account_laws.specs.Views.{View, job_uri, queue_uri, seconds}
use Rattle.account_rules.specs.declared.job.JobState.{JobState}
use Rattle.account_rules.specs.declared.job.JobState.TheVariants.{Held, Pending, Processing, Canceled, Aborted, Completed}

-- ---- job-state (section 5.3.7)

-- of one that has ended; a job ends in none of the first three
abbrev pub end_number : (how : JobState) → ℕ
end_number Pending = 3
end_number Held = 4
end_number Processing = 5
end_number Canceled = 7
end_number Aborted = 8
end_number Completed = 9

-- pending-held, pending, processing; or canceled, aborted, completed
abbrev pub state_shown : Stage → ℕ
state_shown Waits = 4
state_shown (IsFree device rate units) = 3
state_shown (Prints device rate units since is_canceled) = 5
state_shown (HasEnded how count units since at) = end_number how

-- ---- job-state-reasons (section 5.3.8)

abbrev pub end_reason : (how : JobState) → List ℕ
end_reason Pending = codes "none"
end_reason Held = codes "job-hold-until-specified"
end_reason Processing = codes "job-printing"
end_reason Canceled = codes "job-canceled-by-user"
end_reason Aborted = codes "aborted-by-system"
end_reason Completed = codes "job-completed-successfully"

-- one that waits may still take documents; one that is printed may be canceled
abbrev pub reason_shown : (is_open : Bool) → Stage → List ℕ
reason_shown true Waits = codes "job-incoming"
reason_shown false Waits = codes "job-hold-until-specified"
reason_shown is_open (IsFree device rate units) = codes "none"
reason_shown is_open (Prints device rate units since true) = codes "processing-to-stop-point"
reason_shown is_open (Prints device rate units since false) = codes "job-printing"
reason_shown is_open (HasEnded how count units since at) = end_reason how

-- ---- impressions and moments

-- 0 impressions are not known (this project's own)
abbrev pub impressions_shown : ℕ → List PlainValue
impressions_shown impressions = if impressions == 0 then unknown else integer impressions

-- no-value before the moment has come (section 5.3.14)
abbrev pub moment_shown : (view : View) → Option ℕ → List PlainValue
moment_shown view None = no_value
moment_shown view (Some moment) = integer (seconds view moment)

-- ---- the table

abbrev pub described : (name : List ℕ) (values : List PlainValue) → Row
described name values =
    record { name = name; group = codes "job-description"; values = values }

unfoldable pub job_rows : (view : View) (number : ℕ) → JobTold → List Row
job_rows view number job =
    described (codes "job-uri") (uri (job_uri view number))
    ∷ described (codes "job-id") (integer number)
    ∷ described (codes "job-printer-uri") (uri (queue_uri view))
    ∷ described (codes "job-name") (name_without_language job.maker.name)
    ∷ described (codes "job-originating-user-name") (name_without_language view.account)
    ∷ described (codes "job-state") (enum (state_shown job.stage))
    ∷ described (codes "job-state-reasons") (keyword (reason_shown job.is_open job.stage))
    ∷ described (codes "number-of-documents") (integer (length job.documents))
    ∷ described (codes "job-impressions") (impressions_shown job.impressions)
    ∷ described (codes "job-impressions-completed") (integer (count_told job.stage))
    ∷ described (codes "time-at-creation") (integer (seconds view job.made))
    ∷ described (codes "time-at-processing") (moment_shown view (started_told job.stage))
    ∷ described (codes "time-at-completed") (moment_shown view (ended_told job.stage))
    ∷ described (codes "job-printer-up-time") (integer (seconds view view.now))
    ∷ described (codes "attributes-charset") (charset (codes "utf-8"))
    ∷ described (codes "attributes-natural-language") (language (codes "en"))
    ∷ templated (codes "copies") (integer job.maker.copies)
    ∷ templated (codes "job-hold-until") (keyword (codes "indefinite"))
    ∷ []

-- the group 0x02 of a job (RFC 8010 section 3.5.1), with those of them that are wanted
abbrev pub job_group_told : (view : View) (wanted : Option (List (List ℕ))) (number : ℕ)
    → JobTold → PlainGroup
job_group_told view wanted number job =
    record { tag = 0x02; attributes = attributes_shown wanted (job_rows view number job) }
