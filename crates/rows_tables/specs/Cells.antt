-- Rule: The rows that stand for values: their cells, the key first. A flag is 0 or 1, a state has
-- its number (RFC 8011 section 5.3.7); that no device is the empty text, and no moment -1, is this
-- project's own.
use Rattle.std.specs.Prelude.{if◌then◌else◌, ℕ, ℤ, pos, negsuc, Bool, List, [], ◌∷◌, Option, Some, None}
use Rattle.sqlite_value.specs.declared.value.Value.{Value}
use Rattle.sqlite_value.specs.declared.value.Value.TheVariants.{Int, Text, Blob}
use Rattle.sqlite_value.specs.Order.{Row}
use Rattle.account_rules.specs.declared.account.Account.{Account}
use Rattle.account_rules.specs.declared.job.Standing.{Standing}
use Rattle.account_rules.specs.declared.job.Job.{Job}
use Rattle.account_rules.specs.declared.job.Document.{Document}
use Rattle.account_rules.specs.declared.device.Device.{Device}
use Rattle.account_rules.specs.Formats.{media_type}
use Rattle.account_rules.specs.JobStates.{state_number}

abbrev pub number : ℕ → Value
number n = Int (pos n)

abbrev pub flag : Bool → Value
flag on = number (if on then 1 else 0)

-- -1 is before every moment and stands for none, so that the column has a number in each row and
-- its index finds the jobs that have not ended
abbrev pub moment_number : Option ℕ → ℤ
moment_number None = negsuc 0
moment_number (Some at) = pos at

abbrev pub moment : Option ℕ → Value
moment at = Int (moment_number at)

abbrev pub device_name : Option (List ℕ) → List ℕ
device_name None = []
device_name (Some name) = name

abbrev pub device_text : Option (List ℕ) → Value
device_text device = Text (device_name device)

abbrev pub account_cells : (name : List ℕ) (account : Account) → Row
account_cells name account = Text name ∷ number account.opened ∷ number account.next_job ∷ []

abbrev pub standing_cells : Standing → Row
standing_cells standing =
    number (state_number standing.state) ∷ flag standing.is_open ∷ flag standing.stopping
    ∷ number standing.copies ∷ number standing.impressions
    ∷ number standing.reserved ∷ number standing.charged
    ∷ number standing.documents ∷ number standing.rate ∷ device_text standing.device
    ∷ number standing.created ∷ moment standing.started ∷ moment standing.ended ∷ []

abbrev pub job_cells : (name : List ℕ) (job : Job) → Row
job_cells name job =
    Text name ∷ number job.job ∷ Blob job.name ∷ Blob job.password ∷ standing_cells job.standing

abbrev pub document_cells : (name : List ℕ) (document : Document) → Row
document_cells name document = Text name ∷ number document.job ∷ number document.number
    ∷ Text (media_type document.format) ∷ Blob document.bytes ∷ []

abbrev pub grant_cells : (name : List ℕ) (month pages : ℕ) → Row
grant_cells name month pages = Text name ∷ number month ∷ number pages ∷ []

abbrev pub on_cells : (name : List ℕ) (on : Bool) → Row
on_cells name on = Text name ∷ flag on ∷ []

abbrev pub units_cells : (name : List ℕ) (units : ℕ) → Row
units_cells name units = Text name ∷ number units ∷ []

-- a device has a row in each of two tables
abbrev pub device_cells : Device → Row
device_cells device = on_cells device.name device.on

abbrev pub rate_cells : Device → Row
rate_cells device = units_cells device.name device.rate
