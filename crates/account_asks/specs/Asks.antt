-- Rule: What a request asks, or why it is refused.
use Rattle.std.specs.Prelude.{◌≡◌, ℕ, ◌<◌, ◌≤◌, Bool, true, List, length, map, Option, option_map, Result, Ok, Err, IfSome}
use Rattle.std.specs.List.{AllByRecursion}
use Rattle.ipp_coding.specs.declared.message.Header.{Header}
use Rattle.ipp_coding.specs.Plain.{PlainAttribute, PlainMessage, plain_attribute}
use Rattle.ipp_coding.specs.Spelling.{IsAttribute}
use Rattle.ipp_coding.specs.Reading.{header_in, message_of}
use Rattle.account_rules.specs.Limits.{most_copies, most_impressions, longest_job_name, longest_password, longest_document, last_next_job, longest_uri}
use Rattle.account_rules.specs.declared.format.Format.{Format}
use Rattle.account_asks.specs.declared.operation.Operation.{Operation}
use Rattle.account_asks.specs.declared.ask.Ask.{Ask}
use Rattle.account_asks.specs.declared.ask.AskFault.{AskFault}
use Rattle.account_asks.specs.declared.ask.AskFault.TheVariants.{Refused, Memory}
use Rattle.account_asks.specs.declared.ask.Which.{Which}
use Rattle.account_asks.specs.CheckOrder.{checks, message_or_nothing}
use Rattle.account_asks.specs.Checks.{target_of}
use Rattle.account_asks.specs.Fields.{PlainFields, fields_of, wanted}
use Rattle.account_asks.specs.Operations.{hands_in_document, operation_of}
pub use Rattle.account_asks.specs.ProofPlainParts.{plain_names}
use Rattle.account_asks.specs.Refusals.{checked}
pub use Rattle.account_asks.specs.Refusals.{PlainRefusal}
use Rattle.account_asks.specs.Requests.{operation_attributes}
use Rattle.account_asks.specs.Targets.{PlainTarget}
use Rattle.account_asks.specs.Templates.{template_attributes, copies, unsupported}

-- an Ask without where its bytes lie
pub record PlainAsk : Type 0 where
  pub header : Header
  pub operation : Operation
  pub base : List ℕ
  pub job : ℕ
  pub name : List ℕ
  pub password : List ℕ
  pub copies : ℕ
  pub impressions : ℕ
  pub format : Format
  pub last : Bool
  pub which : Which
  pub limit : Option ℕ
  pub wanted : Option (List (List ℕ))
  pub unsupported : List PlainAttribute
  pub payload : List ℕ

abbrev pub plain_ask : Ask → PlainAsk
plain_ask ask = record {
  header = ask.header;
  operation = ask.operation;
  base = ask.base.now;
  job = ask.job;
  name = ask.name.now;
  password = ask.password.now;
  copies = ask.copies;
  impressions = ask.impressions;
  format = ask.format;
  last = ask.last;
  which = ask.which;
  limit = ask.limit;
  wanted = option_map plain_names ask.wanted;
  unsupported = map plain_attribute ask.unsupported;
  payload = ask.payload.now;
}

-- ---- what a request asks that passes the checks

-- put together of its parts
abbrev pub assembled : (header : Header) (operation : Operation) (target : PlainTarget)
    (fields : PlainFields) (wanted : Option (List (List ℕ))) (copies : ℕ)
    (unsupported : List PlainAttribute) (payload : List ℕ) → PlainAsk
assembled header operation target fields wanted copies unsupported payload = record {
  header = header;
  operation = operation;
  base = target.base;
  job = target.job;
  name = fields.name;
  password = fields.password;
  copies = copies;
  impressions = fields.impressions;
  format = fields.format;
  last = fields.last;
  which = fields.which;
  limit = fields.limit;
  wanted = wanted;
  unsupported = unsupported;
  payload = payload;
}

unfoldable pub asked : (account : List ℕ) (header : Header) (operation : Operation)
    (m : PlainMessage) → PlainAsk
asked account header operation m =
    assembled header operation
    (target_of account operation (operation_attributes m))
    (fields_of operation (operation_attributes m))
    (wanted operation (operation_attributes m))
    (copies (template_attributes operation m))
    (unsupported (template_attributes operation m))
    m.payload

abbrev pub read_as : (account : List ℕ) (header : Header) (message : Option PlainMessage)
    → Result PlainAsk PlainRefusal
read_as account header message =
    checked
    (checks account header message)
    (asked account header (operation_of header) (message_or_nothing header message))

-- what the body asks of the account, or its first refusal
unfoldable pub ask_of : (account body : List ℕ) → Result PlainAsk PlainRefusal
ask_of account body = read_as account (header_in body) (message_of body)

-- a call answered so, unless memory ran out
abbrev pub AsksAs : Result Ask AskFault → Result PlainAsk PlainRefusal → Type 0
AsksAs (Ok ask) asked = asked ≡ Ok (plain_ask ask)
AsksAs (Err (Refused refusal unsupported)) asked =
    asked ≡ Err (record { refusal = refusal; unsupported = map plain_attribute unsupported })
AsksAs (Err Memory) asked = Unit {0}

-- ---- what holds of every answer

-- each field lies within its limits
pub record IsAsk (ask : PlainAsk) : Type 0 where
  pub base_fits : length ask.base ≤ longest_uri
  pub job_in_range : ask.job < last_next_job
  pub name_fits : length ask.name ≤ longest_job_name
  pub password_fits : length ask.password ≤ longest_password
  pub copies_from_one : 1 ≤ ask.copies
  pub copies_at_most : ask.copies ≤ most_copies
  pub impressions_at_most : ask.impressions ≤ most_impressions
  pub limit_from_one : IfSome ask.limit (λ limit. 1 ≤ limit)
  pub unsupported_spelled : AllByRecursion IsAttribute ask.unsupported
  pub document_fits : hands_in_document ask.operation ≡ true → length ask.payload ≤ longest_document

-- the attributes that go with a refusal
abbrev pub CanBeSpelled : AskFault → Type 0
CanBeSpelled (Refused refusal unsupported) =
    AllByRecursion IsAttribute (map plain_attribute unsupported)
CanBeSpelled Memory = Unit {0}
