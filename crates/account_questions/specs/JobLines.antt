-- Rule: The line that tells a job (all this project's own).
use Rattle.std.specs.Prelude.{ℕ, Bool, true, false, List, [], ◌∷◌, ◌++◌, Option, Some, None, codes, decimal}
use Rattle.percent_encoding.specs.Percent.{percent_encode}
use Rattle.percent_encoding.specs.declared.ascii_set.AsciiSet.{AsciiSet}
use Rattle.account_rules.specs.declared.job.Job.{Job}
use Rattle.account_rules.specs.declared.job.Standing.{Standing}
use Rattle.account_rules.specs.declared.job.JobState.{JobState}
use Rattle.account_rules.specs.declared.job.JobState.TheVariants.{Held, Pending, Processing, Canceled, Aborted, Completed}

-- a job that was canceled while it was printed stops
abbrev pub state_text : (state : JobState) (stopping : Bool) → List ℕ
state_text Held stopping = codes "held"
state_text Pending stopping = codes "pending"
state_text Processing false = codes "processing"
state_text Processing true = codes "stopping"
state_text Canceled stopping = codes "canceled"
state_text Aborted stopping = codes "aborted"
state_text Completed stopping = codes "completed"

-- the device, or a dash for none
abbrev pub device_text : Option (List ℕ) → List ℕ
device_text None = codes "-"
device_text (Some name) = name

-- the moment in seconds, or a dash for none
abbrev pub moment_text : Option ℕ → List ℕ
moment_text None = codes "-"
moment_text (Some at) = decimal at

-- whether there is one, and never which
abbrev pub password_text : List ℕ → List ℕ
password_text [] = codes "-"
password_text (byte ∷ more) = codes "password"

-- In a job's name each byte outside ASCII, each control, the space and the percent sign is told as `%`
-- and two hexadecimal digits: bit b stands for the byte b.
abbrev pub escaped : AsciiSet
escaped = record { mask = 170141183460469231731687303861912993791 }

-- where it stands
unfoldable pub place_text : Job → List ℕ
place_text job =
    codes "job "
    ++ (decimal job.job
    ++ (codes " "
    ++ (state_text job.standing.state job.standing.stopping
    ++ (codes " " ++ device_text job.standing.device))))

-- when it was made, started and ended
unfoldable pub times_text : Standing → List ℕ
times_text standing =
    codes " "
    ++ (decimal standing.created
    ++ (codes " " ++ (moment_text standing.started ++ (codes " " ++ moment_text standing.ended))))

-- copies, impressions of one copy, units reserved, units charged, documents
unfoldable pub counts_text : Standing → List ℕ
counts_text standing =
    codes " "
    ++ (decimal standing.copies
    ++ (codes " "
    ++ (decimal standing.impressions
    ++ (codes " "
    ++ (decimal standing.reserved
    ++ (codes " "
    ++ (decimal standing.charged ++ (codes " " ++ decimal standing.documents))))))))

abbrev pub job_text : Job → List ℕ
job_text job =
    place_text job
    ++ (times_text job.standing
    ++ (codes " "
    ++ (password_text job.password
    ++ (counts_text job.standing ++ (codes " " ++ percent_encode escaped job.name)))))
