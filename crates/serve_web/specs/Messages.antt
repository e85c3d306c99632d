-- Rule: The messages of IPP that a browser's acts are, as any client could send them (all this
-- project's own).
use Rattle.std.specs.Prelude.{◌≡◌, ℕ, Bool, ◌&&◌, not, List, [], map, Option, Some, None, codes, if◌then◌else◌, is_some, length, nat_lt, option_map}
use Rattle.std.specs.Borrow.{Bor}
use Rattle.http.specs.Request.{body_of}
use Rattle.http.specs.declared.request.Request.{Request}
use Rattle.http_header.specs.FieldValue.{FieldValue}
use Rattle.ipp_coding.specs.Spelling.{message_spelling}
use Rattle.percent_encoding.specs.Percent.{percent_decode}
use Rattle.client_owner.specs.Documents.{format_of}
use Rattle.client_owner.specs.Requests.{print_message}
use Rattle.client_owner.specs.declared.new_job.NewJob.{NewJob}
use Rattle.input_http.specs.Words.{before}
use Rattle.input_lines.specs.OwnerRequests.{queue_uri}
use Rattle.account_rules.specs.QueuePaths.{behind}
use Rattle.input_http.specs.Origins.{value_in}
use Rattle.serve_web.specs.Parts.{replaced}
use Rattle.serve_web.specs.Requests.{query_of}

-- ---- the name of the file, which the query has as a form writes it (URL Standard section 5.1)

abbrev pub part_behind : (rest : Option (List ℕ)) → List ℕ
part_behind None = []
part_behind (Some rest) = before 38 rest

abbrev pub name_part : (query : List ℕ) → List ℕ
name_part query = part_behind (behind (codes "name=") query)

-- a "+" stands for a space
abbrev pub file_name : (query : List ℕ) → List ℕ
file_name query = percent_decode (map (replaced 43 32) (name_part query))

-- ---- its password, which the field has percent-encoded; one of no bytes is none

abbrev pub some_if_any : List ℕ → Option (List ℕ)
some_if_any word = if nat_lt 0 (length word) then Some word else None

abbrev pub password_in : Option FieldValue → Option (List ℕ)
password_in None = None
password_in (Some value) = some_if_any (percent_decode value.bytes)

abbrev pub password_sent : Request (List ℕ) → Option (List ℕ)
password_sent request = password_in (value_in request (codes "job-password"))

-- where a file needs a password, a request without one is refused
abbrev pub lacks_password : (needs : Bool) → Request (List ℕ) → Bool
lacks_password needs request = needs && not (is_some (password_sent request))

abbrev pub word_of : Bor (List ℕ) → List ℕ
word_of word = word.now

-- ---- the message that prints it

-- a job of one document, in the format that its first bytes tell
pub record IsJobOf (name : List ℕ) (copies : ℕ) (pages : Option ℕ) (password : Option (List ℕ))
    (document : List ℕ) (job : NewJob) : Type 0 where
  pub name_is : job.name.now ≡ name
  pub copies_are : job.copies ≡ copies
  pub impressions_are : job.impressions ≡ pages
  pub password_is : option_map word_of job.password ≡ password
  pub format_is : job.format ≡ format_of document
  pub document_is : job.document.now ≡ document

-- the job that a request hands in
abbrev pub IsFileOf : (request : Request (List ℕ)) (copies : ℕ) (pages : Option ℕ) (job : NewJob)
    → Type 0
IsFileOf request copies pages job = IsJobOf (file_name (query_of request)) copies pages
    (password_sent request) (body_of request) job

abbrev pub IsFileMessage : (account : List ℕ) (request : Request (List ℕ)) (copies : ℕ)
    (pages : Option ℕ) (message : List ℕ) → Type 0
IsFileMessage account request copies pages message = (job : NewJob)
    × IsFileOf request copies pages job
    × (message ≡ message_spelling (print_message (queue_uri account) job))
