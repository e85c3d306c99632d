-- What a request is for: which attributes name it, and where they lead (RFC 8011 section 4.1.5; the
-- paths and the numbers of jobs are this project's own).
use Rattle.std.specs.Prelude.{◌≡◌, ◌≢◌, ℕ, ◌≤◌, codes, List, ◌++◌, length}
use Rattle.std.specs.Fmt.{decimal}
use Rattle.ipp_coding.specs.Plain.{PlainAttribute, PlainValue}
use Rattle.account_asks.specs.Targets.{NamedTarget, JobUri, PrinterUri}
use Rattle.account_asks.specs.declared.operation.Operation.{Operation}
use Rattle.account_laws.specs.OperationIds.{AsksJob, Whether}
use Rattle.account_laws.specs.SpelledAttributes.{HasNone, IsInteger, IsUnder, Says}
use Rattle.account_laws.specs.SpelledUris.{HasParts}

-- A target is named by a printer-uri with the number of a job, 0 for none; or by a job-uri.
abbrev pub uri_of : NamedTarget → List ℕ
uri_of (PrinterUri uri number) = uri
uri_of (JobUri uri) = uri

-- ---- what names it

-- one uri 0x45
abbrev pub SaysUri : (name : List ℕ) (attributes : List PlainAttribute) (uri : List ℕ) → Type 0
SaysUri name attributes uri = Says (IsUnder 0x45) name attributes uri

-- job-id is an integer 0x21 of four bytes. From 1 to 999999 it is the number of a job, and any
-- other stands for 0.
pub record IsJobId (value : PlainValue) (job : ℕ) : Type 0 where
  pub tag : value.tag ≡ 0x21
  pub four : length value.bytes ≡ 4
  pub to_last : job ≤ 999999
  pub numbers : job ≢ 0 → IsInteger value job
  pub in_range : (n : ℕ) → n ≤ 999999 → IsInteger value n → job ≡ n

-- the queue and no job of it: printer-uri
abbrev pub NamesQueue : List PlainAttribute → NamedTarget → Type 0
NamesQueue attributes (PrinterUri uri number) =
    SaysUri (codes "printer-uri") attributes uri × (number ≡ 0)
NamesQueue attributes (JobUri uri) = ⊥

-- a job: printer-uri and job-id, or job-uri where there is no printer-uri
abbrev pub NamesJob : List PlainAttribute → NamedTarget → Type 0
NamesJob attributes (PrinterUri uri number) =
    SaysUri (codes "printer-uri") attributes uri
    × Says IsJobId (codes "job-id") attributes number
NamesJob attributes (JobUri uri) =
    HasNone (codes "printer-uri") attributes × SaysUri (codes "job-uri") attributes uri

abbrev pub NamesTarget : Operation → List PlainAttribute → NamedTarget → Type 0
NamesTarget operation attributes target =
    Whether (AsksJob operation) (NamesJob attributes target) (NamesQueue attributes target)

-- ---- where it leads

-- A printer-uri has the path of the account's queue. In a job-uri a "/" and the number of the job,
-- 1 to 999999, stand behind that.
abbrev pub LeadsTo : (account base : List ℕ) (job : ℕ) → NamedTarget → Type 0
LeadsTo account base job (PrinterUri uri number) =
    HasParts uri base (codes "/ipp/print/" ++ account) × (job ≡ number)
LeadsTo account base job (JobUri uri) =
    HasParts uri base (codes "/ipp/print/" ++ (account ++ (codes "/" ++ decimal job)))
    × (1 ≤ job) × (job ≤ 999999)

-- It is for the account's queue at this base, and for the job there with this number, by a URI of
-- at most 1023 bytes (section 5.1.6).
pub record IsFor (operation : Operation) (account : List ℕ) (attributes : List PlainAttribute)
    (base : List ℕ) (job : ℕ) : Type 0 where
  pub target : NamedTarget
  pub is_named : NamesTarget operation attributes target
  pub fits : length (uri_of target) ≤ 1023
  pub leads : LeadsTo account base job target
