-- For the proof of the code alone: the parts of a request between its checks.
use Rattle.std.specs.Prelude.{◌≡◌, ℕ, ◌<◌, ◌≤◌, List, [], length, map, IfSome}
use Rattle.ipp_coding.specs.Plain.{PlainAttribute, plain_attribute}
use Rattle.account_rules.specs.Limits.{most_impressions, longest_job_name, longest_password, last_next_job, longest_uri}
use Rattle.account_rules.specs.declared.refusal.Refusal.{Refusal}
use Rattle.account_asks.specs.declared.operation.Operation.{Operation}
use Rattle.account_asks.specs.declared.ask.AskFault.{AskFault}
use Rattle.account_asks.specs.declared.ask.AskFault.TheVariants.{Refused, Memory}
use Rattle.account_asks.specs.declared.parts.Parts.{Parts}
use Rattle.account_asks.specs.Checks.{target_of}
use Rattle.account_asks.specs.Fields.{PlainFields, fields_of}
use Rattle.account_asks.specs.ProofPlainParts.{plain_target, plain_fields}
use Rattle.account_asks.specs.Targets.{PlainTarget}

-- where it leads, and what its operation attributes say
pub record AskParts : Type 0 where
  pub attributes : List PlainAttribute
  pub target : PlainTarget
  pub fields : PlainFields

unfoldable pub ask_parts : (account : List ℕ) (operation : Operation)
    (attributes : List PlainAttribute) → AskParts
ask_parts account operation attributes = record {
  attributes = attributes;
  target = target_of account operation attributes;
  fields = fields_of operation attributes;
}

abbrev pub plain_parts : Parts → AskParts
plain_parts parts = record {
  attributes = map plain_attribute parts.attributes.now;
  target = plain_target parts.target;
  fields = plain_fields parts.fields;
}

-- the parts of a request lie within their limits
pub record IsParts (parts : AskParts) : Type 0 where
  pub base_fits : length parts.target.base ≤ longest_uri
  pub job_in_range : parts.target.job < last_next_job
  pub name_fits : length parts.fields.name ≤ longest_job_name
  pub password_fits : length parts.fields.password ≤ longest_password
  pub impressions_at_most : parts.fields.impressions ≤ most_impressions
  pub limit_from_one : IfSome parts.fields.limit (λ limit. 1 ≤ limit)

-- a refusal with which no attributes go
abbrev pub IsBare : AskFault → Refusal → Type 0
IsBare (Refused refusal unsupported) given = (refusal ≡ given) × (unsupported ≡ [])
IsBare Memory given = ⊥
