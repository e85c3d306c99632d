-- A request passes its checks where each of them passes.
use Rattle.std.proofs.Common.{◌≡◌, ℕ, true≢false, false, not, ◌&&◌, nat_lt, List, [], ◌∷◌, length, Ok, Some, None, is_none, if◌then◌else◌, refl, ap, ◌∙◌}
use Rattle.std.specs.List.{AllByRecursion}
use Rattle.ipp_coding.specs.Plain.{PlainMessage}
use Rattle.ipp_coding.specs.declared.message.Header.{Header}
use Rattle.account_asks.specs.Asks.{PlainAsk, asked, read_as}
use Rattle.account_asks.specs.CheckOrder.{attribute_checks, checks, document_checks, field_checks, header_checks, message_checks, message_or_nothing, opening_checks, target_checks}
use Rattle.account_asks.specs.Checks.{begins_well, compression_check, is_utf_8, malformed_check, named_target, password_encryption_check, password_encryption_missing_check, some_attribute}
use Rattle.account_asks.specs.Fields.{any_is_wrong, document_format, fidelity, job_name, password, which_jobs}
use Rattle.account_asks.specs.Operations.{hands_in_document, operation_of, operation_with}
use Rattle.account_asks.specs.Refusals.{Check, first_refusal, refusal_of}
use Rattle.account_asks.specs.Requests.{charset_first, is_served_version, operation_attributes}
use Rattle.account_asks.specs.Targets.{reached, target_in, uri_of}
use Rattle.account_asks.specs.Templates.{template_attributes, unsupported}
use Rattle.account_asks.specs.declared.operation.Operation.{Operation}
use Rattle.account_laws.proofs.FirstFound.{each_passes, later_pass, passed}
use Rattle.account_rules.specs.Limits.{longest_document, longest_job_name, longest_password, longest_uri}

-- the checks of a message, but for that it is one
pub record Passes (account : List ℕ) (header : Header) (operation : Operation) (m : PlainMessage) : Type 0 where
  pub version : not (is_served_version header) ≡ false
  pub served : is_none (operation_with header.code) ≡ false
  pub begins_so : not (begins_well (operation_attributes m)) ≡ false
  pub utf_8 : not (is_utf_8 (charset_first (operation_attributes m))) ≡ false
  pub named : is_none (target_in operation (operation_attributes m)) ≡ false
  pub short : nat_lt longest_uri (length (uri_of (named_target operation (operation_attributes m)))) ≡ false
  pub leads : is_none (reached account (named_target operation (operation_attributes m))) ≡ false
  pub well : any_is_wrong operation (operation_attributes m) ≡ false
  pub compression : (compression_check operation (operation_attributes m)).refused ≡ false
  pub format : is_none (document_format operation (operation_attributes m)) ≡ false
  pub which : is_none (which_jobs operation (operation_attributes m)) ≡ false
  pub told : (password_encryption_missing_check operation (operation_attributes m)).refused ≡ false
  pub encryption : (password_encryption_check operation (operation_attributes m)).refused ≡ false
  pub password_fits : nat_lt longest_password (length (password operation (operation_attributes m))) ≡ false
  pub name_fits : nat_lt longest_job_name (length (job_name operation (operation_attributes m))) ≡ false
  pub template : (fidelity operation (operation_attributes m) && some_attribute (unsupported (template_attributes operation m))) ≡ false
  pub document : (hands_in_document operation && nat_lt longest_document (length m.payload)) ≡ false

pub all_pass : (account : List ℕ) (header : Header) (m : PlainMessage) → first_refusal (checks account header (Some m)) ≡ None → Passes account header (operation_of header) m
unfolding message_checks attribute_checks opening_checks target_checks field_checks document_checks
all_pass account header m none =
    let each = each_passes (checks account header (Some m)) none in
    let opening = each.1.1.1 in
    let target = opening.1.1 in
    let field = target.1.1.1 in
    let last = field.1.1.1.1.1.1.1.1 in
    record {
      version = each.0;
      served = each.1.0;
      begins_so = opening.0;
      utf_8 = opening.1.0;
      named = target.0;
      short = target.1.0;
      leads = target.1.1.0;
      well = field.0;
      compression = field.1.0;
      format = field.1.1.0;
      which = field.1.1.1.0;
      told = field.1.1.1.1.0;
      encryption = field.1.1.1.1.1.0;
      password_fits = field.1.1.1.1.1.1.0;
      name_fits = field.1.1.1.1.1.1.1.0;
      template = last.0;
      document = last.1.0;
    }

-- where each passes, none refuses
none_refuses : (checks : List Check) → AllByRecursion (λ check. check.refused ≡ false) checks → first_refusal checks ≡ None
none_refuses [] each = refl
none_refuses (check ∷ checks) each = ap (λ b. if b then Some (refusal_of check) else first_refusal checks) each.0 ∙ none_refuses checks each.1

pub passes_all : (account : List ℕ) (header : Header) (m : PlainMessage) → Passes account header (operation_of header) m → first_refusal (checks account header (Some m)) ≡ None
unfolding message_checks attribute_checks opening_checks target_checks field_checks document_checks
passes_all account header m p =
    none_refuses (checks account header (Some m)) (p.version, (p.served, (refl, (p.begins_so, (p.utf_8, (p.named, (p.short, (p.leads, (p.well, (p.compression, (p.format, (p.which, (p.told, (p.encryption, (p.password_fits, (p.name_fits, (p.template, (p.document, tt))))))))))))))))))

-- a body that is no message asks nothing
pub nothing_asked : (account : List ℕ) (header : Header) (ask : PlainAsk) → read_as account header None ≡ Ok ask → ⊥
nothing_asked account header ask reads =
    let m = message_or_nothing header None in
    let both = passed (first_refusal (checks account header None)) (asked account header (operation_of header) m) ask reads in
    let first = later_pass (header_checks header) (malformed_check None ∷ message_checks account (operation_of header) m) both.0 in
    true≢false (each_passes (malformed_check None ∷ message_checks account (operation_of header) m) first).0
