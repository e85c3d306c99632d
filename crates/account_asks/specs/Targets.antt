-- Rule: What a request is for: a queue, or a job of it (RFC 8011 section 4.1.5). Scheme and
-- authority of a URI are not looked at, and nothing is percent-decoded (this project's rules).
use Rattle.std.specs.Prelude.{ℕ, ℤ, pos, negsuc, Bool, false, not, ◌&&◌, ◌==◌, if◌then◌else◌, nat_lt, nat_le, List, [], ◌∷◌, length, Option, Some, None, is_some, codes, option_map, option_and_then, bytes_eq}
use Rattle.std.specs.Char.{is_ascii_digit}
use Rattle.std.specs.List.{list_all}
use Rattle.std.specs.Str.Parse.{digits_value}
use Rattle.ipp_coding.specs.Plain.{PlainAttribute}
use Rattle.account_rules.specs.Limits.{last_next_job}
use Rattle.account_rules.specs.QueuePaths.{behind, queue_path, queues}
use Rattle.account_asks.specs.declared.operation.Operation.{Operation}
use Rattle.account_asks.specs.Operations.{is_for_job}
use Rattle.account_asks.specs.Requests.{named, lone_value, single_named}
use Rattle.account_asks.specs.Syntaxes.{integer_said}
use Rattle.account_asks.specs.Uris.{UriParts, parts_of}

-- ---- which attributes name it

-- printer-uri and a number of a job, 0 for none; or job-uri
pub data NamedTarget : Type 0 where
  PrinterUri : List ℕ → ℕ → NamedTarget
  JobUri : List ℕ → NamedTarget

abbrev pub uri_of : NamedTarget → List ℕ
uri_of (PrinterUri uri job) = uri
uri_of (JobUri uri) = uri

-- one value 0x45
abbrev pub printer_uri_said : List PlainAttribute → Option (List ℕ)
printer_uri_said attributes = single_named (codes "printer-uri") 0x45 attributes

abbrev pub job_uri_said : List PlainAttribute → Option (List ℕ)
job_uri_said attributes = single_named (codes "job-uri") 0x45 attributes

-- jobs are numbered 1 to 999999; no job has another number
abbrev pub job_numbered : ℤ → ℕ
job_numbered (pos n) = if nat_lt n last_next_job then n else 0
job_numbered (negsuc n) = 0

-- job-id, one value 0x21
abbrev pub lone_integer : PlainAttribute → Option ℤ
lone_integer attribute = option_and_then integer_said (lone_value attribute.values)

abbrev pub job_id : List PlainAttribute → Option ℕ
job_id attributes =
    option_map job_numbered (option_and_then lone_integer (named (codes "job-id") attributes))

abbrev pub with_job_id : (attributes : List PlainAttribute) (uri : List ℕ) → Option NamedTarget
with_job_id attributes uri = option_map (λ job. PrinterUri uri job) (job_id attributes)

-- a job: printer-uri and job-id, or job-uri where there is no printer-uri
abbrev pub job_target : List PlainAttribute → Option NamedTarget
job_target attributes =
    if is_some (named (codes "printer-uri") attributes)
    then option_and_then (with_job_id attributes) (printer_uri_said attributes)
    else option_map (λ uri. JobUri uri) (job_uri_said attributes)

unfoldable pub target_in : Operation → List PlainAttribute → Option NamedTarget
target_in operation attributes =
    if is_for_job operation
    then job_target attributes
    else option_map (λ uri. PrinterUri uri 0) (printer_uri_said attributes)

-- ---- the path of a job in a queue (this project's own)

-- 1 to 6 digits, the first of them not 0
abbrev pub starts_above_zero : List ℕ → Bool
starts_above_zero [] = false
starts_above_zero (c ∷ rest) = not (c == 48)

abbrev pub is_job_number : List ℕ → Bool
is_job_number digits =
    starts_above_zero digits && list_all is_ascii_digit digits && nat_le (length digits) 6

abbrev pub job_number : List ℕ → Option ℕ
job_number digits = if is_job_number digits then Some (digits_value 10 digits) else None

-- the path of the account's queue, a "/" and the number of the job
abbrev pub job_in_path : (account path : List ℕ) → Option ℕ
job_in_path account path =
    option_and_then
    job_number
    (option_and_then
    (behind (codes "/"))
    (option_and_then (behind account) (behind queues path)))

-- ---- where the target leads

-- what stands before the path, and the number of a job of the queue, 0 for none
pub record PlainTarget : Type 0 where
  pub base : List ℕ
  pub job : ℕ

abbrev pub at_job : (base : List ℕ) (job : ℕ) → PlainTarget
at_job base job = record { base = base; job = job }

abbrev pub in_queue : (account : List ℕ) (job : ℕ) (parts : UriParts) → Option PlainTarget
in_queue account job parts =
    if bytes_eq parts.path (queue_path account) then Some (at_job parts.base job) else None

abbrev pub in_job : (account : List ℕ) (parts : UriParts) → Option PlainTarget
in_job account parts = option_map (at_job parts.base) (job_in_path account parts.path)

-- in the account's queue, if it leads there
unfoldable pub reached : (account : List ℕ) (target : NamedTarget) → Option PlainTarget
reached account (PrinterUri uri job) = option_and_then (in_queue account job) (parts_of uri)
reached account (JobUri uri) = option_and_then (in_job account) (parts_of uri)
