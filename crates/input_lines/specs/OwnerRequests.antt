-- Rule: What an operator asks about a job in the place of the account's owner: the message that the
-- owner could send (RFC 8010 section 3.1.1). The words, the host and the request-id are this
-- project's own.
use Rattle.std.specs.Prelude.{ℕ, List, [], ◌∷◌, ◌++◌, codes}
use Rattle.ipp_coding.specs.declared.message.Header.{Header}
use Rattle.ipp_coding.specs.Plain.{PlainGroup, PlainMessage}
use Rattle.ipp_coding.specs.Spelling.{message_spelling}
use Rattle.input_lines.specs.declared.owner_request.OwnerAct.{OwnerAct}
use Rattle.input_lines.specs.declared.owner_request.OwnerAct.TheVariants.{Cancel, Hold}
use Rattle.account_replies.specs.Attributes.{attribute_with, number_bytes}
use Rattle.account_rules.specs.QueuePaths.{queue_path}

-- the word that begins the line
abbrev pub act_word : OwnerAct → List ℕ
act_word Cancel = codes "cancel"
act_word Hold = codes "hold"

-- Cancel-Job (RFC 8011 section 4.3.3) and Hold-Job (RFC 8011 section 4.3.5)
abbrev pub operation_id : OwnerAct → ℕ
operation_id Cancel = 0x0008
operation_id Hold = 0x000C

-- version 1.1, the operation-id and request-id 1 (RFC 8011 sections 4.1.2 and 4.1.8)
abbrev pub request_header : OwnerAct → Header
request_header act = record { major = 1; minor = 1; code = operation_id act; request_id = 1 }

-- the address of an account's queue; its host is not looked at
abbrev pub queue_uri : (account : List ℕ) → List ℕ
queue_uri account = codes "ipp://localhost" ++ queue_path account

-- the charset and the language (RFC 8011 section 4.1.4.1), and the job by its number in the queue
-- (RFC 8011 section 4.1.5)
abbrev pub target_group : (account : List ℕ) (job : ℕ) → PlainGroup
target_group account job = record {
  tag = 0x01;
  attributes =
      attribute_with (codes "attributes-charset") 0x47 (codes "utf-8")
      ∷ attribute_with (codes "attributes-natural-language") 0x48 (codes "en")
      ∷ attribute_with (codes "printer-uri") 0x45 (queue_uri account)
      ∷ attribute_with (codes "job-id") 0x21 (number_bytes job)
      ∷ [];
}

-- without data
abbrev pub request_message : (act : OwnerAct) (account : List ℕ) (job : ℕ) → PlainMessage
request_message act account job = record {
  header = request_header act;
  groups = target_group account job ∷ [];
  payload = [];
}

abbrev pub request_text : (act : OwnerAct) (account : List ℕ) (job : ℕ) → List ℕ
request_text act account job = message_spelling (request_message act account job)
