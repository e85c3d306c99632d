-- Rule: Answers of several lines (all this project's own). None has a line feed at its end.
use Rattle.std.specs.Prelude.{ℕ, Bool, true, false, List, ◌∷◌, ◌++◌, codes, decimal, length}
use Rattle.std.specs.List.{flat_map}
use Rattle.page_markup.specs.Moments.{month_text}
use Rattle.account_questions.specs.JobLines.{job_text}
use Rattle.account_rules.specs.declared.account.Grant.{Grant}
use Rattle.account_rules.specs.declared.device.Device.{Device}
use Rattle.account_rules.specs.declared.job.Job.{Job}

-- the first line tells how many follow
abbrev pub list_text : {X : Type 0} → (word : List ℕ) (text : X → List ℕ) (items : List X) → List ℕ
list_text word text items =
    word ++ codes " " ++ decimal (length items) ++ flat_map (λ item. 10 ∷ text item) items

abbrev pub jobs_text : List Job → List ℕ
jobs_text jobs = list_text (codes "jobs") job_text jobs

-- ---- grants

abbrev pub grant_text : Grant → List ℕ
grant_text grant = codes "grant " ++ (month_text grant.month ++ (codes " " ++ decimal grant.pages))

abbrev pub grants_text : List Grant → List ℕ
grants_text grants = list_text (codes "grants") grant_text grants

-- ---- names of accounts

abbrev pub account_text : List ℕ → List ℕ
account_text name = codes "account " ++ name

abbrev pub accounts_text : List (List ℕ) → List ℕ
accounts_text names = list_text (codes "accounts") account_text names

-- ---- devices

abbrev pub on_text : Bool → List ℕ
on_text true = codes "on"
on_text false = codes "off"

-- whether it takes jobs, and the units that an impression counts on it
abbrev pub device_text : Device → List ℕ
device_text device = codes "device "
    ++ (device.name ++ (codes " " ++ (on_text device.on ++ (codes " " ++ decimal device.rate))))

abbrev pub devices_text : List Device → List ℕ
devices_text devices = list_text (codes "devices") device_text devices
