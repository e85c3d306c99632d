-- Rule: The requests of an owner, as messages (RFC 8011 sections 4.2.1, 4.2.6, 4.3.3, 4.3.5 and
-- 4.3.6).
use Rattle.std.specs.Prelude.{ℕ, List, [], ◌∷◌, ◌++◌, codes, Option, Some, None, map}
use Rattle.std.specs.Borrow.{Bor}
use Rattle.ipp_coding.specs.Plain.{PlainAttribute, PlainGroup, PlainMessage}
use Rattle.ipp_coding.specs.declared.message.Header.{Header}
use Rattle.account_replies.specs.Attributes.{attribute_of, attribute_with, number_bytes, value_with}
use Rattle.account_rules.specs.Formats.{media_type}
use Rattle.client_owner.specs.declared.acts.JobAct.{JobAct}
use Rattle.client_owner.specs.declared.acts.JobAct.TheVariants.{Cancel, Hold, Release}
use Rattle.client_owner.specs.declared.asked.Asked.{Asked}
use Rattle.client_owner.specs.declared.asked.Asked.TheVariants as asked_is
use Rattle.client_owner.specs.declared.new_job.NewJob.{NewJob}

-- the operation-ids of Cancel-Job, Hold-Job and Release-Job (RFC 8011 section 5.4.15)
abbrev pub act_id : JobAct → ℕ
act_id Cancel = 0x0008
act_id Hold = 0x000C
act_id Release = 0x000D

-- version 1.1, the operation-id and request-id 1 (RFC 8011 sections 4.1.2 and 4.1.8)
abbrev pub request_header : (operation : ℕ) → Header
request_header operation = record { major = 1; minor = 1; code = operation; request_id = 1 }

-- the charset, the language and the queue (RFC 8011 sections 4.1.4.1 and 4.1.5), and what the
-- operation has beside them
abbrev pub operation_group : (uri : List ℕ) (more : List PlainAttribute) → PlainGroup
operation_group uri more = record {
  tag = 0x01;
  attributes =
      attribute_with (codes "attributes-charset") 0x47 (codes "utf-8")
      ∷ attribute_with (codes "attributes-natural-language") 0x48 (codes "en")
      ∷ attribute_with (codes "printer-uri") 0x45 uri
      ∷ more;
}

-- ---- Print-Job (RFC 8011 section 4.2.1)

-- of one copy, where they are told (RFC 8011 section 5.3.17.2)
abbrev pub impressions : Option ℕ → List PlainAttribute
impressions None = []
impressions (Some count) = attribute_with (codes "job-impressions") 0x21 (number_bytes count) ∷ []

-- a password, where there is one, as it is (PWG 5100.11)
abbrev pub password : Option (Bor (List ℕ)) → List PlainAttribute
password None = []
password (Some word) = attribute_with (codes "job-password") 0x30 word.now
    ∷ attribute_with (codes "job-password-encryption") 0x44 (codes "none") ∷ []

abbrev pub print_attributes : NewJob → List PlainAttribute
print_attributes job = attribute_with (codes "job-name") 0x42 job.name.now
    ∷ attribute_with (codes "document-format") 0x49 (media_type job.format)
    ∷ impressions job.impressions ++ password job.password

-- the job template attributes (RFC 8011 section 5.2)
abbrev pub copies_group : (copies : ℕ) → PlainGroup
copies_group copies = record {
  tag = 0x02;
  attributes = attribute_with (codes "copies") 0x21 (number_bytes copies) ∷ [];
}

abbrev pub print_message : (uri : List ℕ) → NewJob → PlainMessage
print_message uri job = record {
  header = request_header 0x0002;
  groups = operation_group uri (print_attributes job) ∷ copies_group job.copies ∷ [];
  payload = job.document.now;
}

-- ---- Get-Jobs (RFC 8011 section 4.2.6)

-- those of which a table of jobs tells
abbrev pub wanted : List (List ℕ)
wanted = codes "job-id" ∷ codes "job-state" ∷ codes "copies" ∷ codes "job-impressions"
    ∷ codes "number-of-documents" ∷ codes "time-at-creation" ∷ codes "job-printer-up-time"
    ∷ codes "job-name" ∷ []

abbrev pub get_jobs_message : (uri : List ℕ) → PlainMessage
get_jobs_message uri = record {
  header = request_header 0x000A;
  groups = operation_group uri (
      attribute_with (codes "which-jobs") 0x44 (codes "not-completed")
      ∷ attribute_of (codes "requested-attributes") (map (value_with 0x44) wanted)
      ∷ []
      ) ∷ [];
  payload = [];
}

-- ---- Cancel-Job, Hold-Job and Release-Job (RFC 8011 sections 4.3.3, 4.3.5 and 4.3.6)

-- the job by its number in the queue (RFC 8011 section 4.1.5)
abbrev pub act_message : (uri : List ℕ) (act : JobAct) (job : ℕ) → PlainMessage
act_message uri act job = record {
  header = request_header (act_id act);
  groups = operation_group uri (attribute_with (codes "job-id") 0x21 (number_bytes job) ∷ []) ∷ [];
  payload = [];
}

-- ---- what is asked

abbrev pub request : (uri : List ℕ) → Asked → PlainMessage
request uri (asked_is.Print job) = print_message uri job
request uri asked_is.Jobs = get_jobs_message uri
request uri (asked_is.Act act job) = act_message uri act job
