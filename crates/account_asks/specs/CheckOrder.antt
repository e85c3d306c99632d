-- Rule: The order of the checks of a request that need no row, 1 to 18: the first that fails is
-- answered.
use Rattle.std.specs.Prelude.{ℕ, Bool, List, [], ◌∷◌, ◌++◌, Option, unwrap_or}
use Rattle.ipp_coding.specs.declared.message.Header.{Header}
use Rattle.ipp_coding.specs.Plain.{PlainAttribute, PlainMessage}
use Rattle.account_asks.specs.declared.operation.Operation.{Operation}
use Rattle.account_asks.specs.Checks.{version_check, operation_check, malformed_check, charset_and_language_check, charset_check, target_check, target_length_check, queue_check, named_target, syntax_check, compression_check, document_format_check, which_jobs_check, password_encryption_missing_check, password_encryption_check, password_length_check, job_name_length_check, template_check, document_check}
use Rattle.account_asks.specs.Fields.{fidelity}
use Rattle.account_asks.specs.Operations.{operation_of}
use Rattle.account_asks.specs.Refusals.{Check}
use Rattle.account_asks.specs.Requests.{operation_attributes}
use Rattle.account_asks.specs.Targets.{reached, target_in}
use Rattle.account_asks.specs.Templates.{template_attributes, unsupported}

-- 1 and 2, of the header
abbrev pub header_checks : Header → List Check
header_checks header = version_check header ∷ operation_check header ∷ []

-- 4 and 5, of how the message begins
unfoldable pub opening_checks : List PlainAttribute → List Check
opening_checks attributes = charset_and_language_check attributes ∷ charset_check attributes ∷ []

-- 6 to 8, of its target
unfoldable pub target_checks : (account : List ℕ) (operation : Operation)
    (attributes : List PlainAttribute) → List Check
target_checks account operation attributes =
    target_check (target_in operation attributes)
    ∷ target_length_check (named_target operation attributes)
    ∷ queue_check (reached account (named_target operation attributes))
    ∷ []

-- 9 to 16, of what its operation attributes say
unfoldable pub field_checks : Operation → List PlainAttribute → List Check
field_checks operation attributes =
    syntax_check operation attributes
    ∷ compression_check operation attributes
    ∷ document_format_check operation attributes
    ∷ which_jobs_check operation attributes
    ∷ password_encryption_missing_check operation attributes
    ∷ password_encryption_check operation attributes
    ∷ password_length_check operation attributes
    ∷ job_name_length_check operation attributes
    ∷ []

-- 17 and 18, of its job template attributes and its document
unfoldable pub document_checks : (operation : Operation) (insists : Bool)
    (unsupported : List PlainAttribute) (payload : List ℕ) → List Check
document_checks operation insists unsupported payload =
    template_check insists unsupported ∷ document_check operation unsupported payload ∷ []

-- 4 to 16, of the operation attributes
unfoldable pub attribute_checks : (account : List ℕ) (operation : Operation)
    (attributes : List PlainAttribute) → List Check
attribute_checks account operation attributes =
    opening_checks attributes
    ++ (target_checks account operation attributes ++ field_checks operation attributes)

-- 4 to 18, of a message
unfoldable pub message_checks : (account : List ℕ) (operation : Operation) (m : PlainMessage)
    → List Check
message_checks account operation m =
    attribute_checks account operation (operation_attributes m)
    ++ document_checks
    operation
    (fidelity operation (operation_attributes m))
    (unsupported (template_attributes operation m))
    m.payload

-- where no message spells the body, one with nothing in it
abbrev pub message_or_nothing : Header → Option PlainMessage → PlainMessage
message_or_nothing header message =
    unwrap_or message (record { header = header; groups = []; payload = [] })

-- all eighteen
abbrev pub checks : (account : List ℕ) (header : Header) (message : Option PlainMessage)
    → List Check
checks account header message =
    header_checks header
    ++ (malformed_check message
    ∷ message_checks account (operation_of header) (message_or_nothing header message))
