-- Rule: The checks of a request that need no row, one by one. Their numbers are their order.
use Rattle.std.specs.Prelude.{ℕ, Bool, true, false, not, ◌&&◌, nat_lt, List, [], ◌∷◌, length, Option, Some, None, is_none, is_some, codes, unwrap_or}
use Rattle.std.specs.Str.{str_eq_ignore_ascii_case}
use Rattle.ipp_coding.specs.declared.message.Header.{Header}
use Rattle.ipp_coding.specs.Plain.{PlainAttribute, PlainMessage}
use Rattle.account_rules.specs.Limits.{longest_job_name, longest_password, longest_document, longest_uri}
use Rattle.account_rules.specs.declared.refusal.Word.TheVariants as words
use Rattle.account_asks.specs.declared.field.Field.TheVariants as fields
use Rattle.account_asks.specs.declared.operation.Operation.{Operation}
use Rattle.account_asks.specs.Fields.{any_is_wrong, bytes_of, is_none_if_said, document_format, which_jobs, password, job_name}
use Rattle.account_asks.specs.Operations.{operation_with, hands_in_document}
use Rattle.account_asks.specs.Refusals.{Check, refused_where, refused_with}
use Rattle.account_asks.specs.Requests.{is_served_version, charset_first, language_second}
use Rattle.account_asks.specs.Targets.{NamedTarget, JobUri, PlainTarget, target_in, uri_of, at_job, reached}

-- ---- what the header says

-- 1: the version is one that is served (RFC 8011 section 4.1.8)
abbrev pub version_check : Header → Check
version_check header = refused_where (not (is_served_version header)) 0x0503 words.Version

-- 2: the operation is one of the profile (RFC 8011 section 4.1.2)
abbrev pub operation_check : Header → Check
operation_check header = refused_where (is_none (operation_with header.code)) 0x0501 words.Operation

-- ---- how the message is written

-- 3: a message spells the body (RFC 8010 section 3)
abbrev pub malformed_check : Option PlainMessage → Check
malformed_check message = refused_where (is_none message) 0x0400 words.Malformed

abbrev pub begins_well : List PlainAttribute → Bool
begins_well attributes = is_some (charset_first attributes) && is_some (language_second attributes)

-- 4: the operation group begins with the charset and the natural language (RFC 8011 section 4.1.4)
abbrev pub charset_and_language_check : List PlainAttribute → Check
charset_and_language_check attributes =
    refused_where (not (begins_well attributes)) 0x0400 words.CharsetAndLanguage

abbrev pub is_utf_8 : Option (List ℕ) → Bool
is_utf_8 None = false
is_utf_8 (Some charset) = str_eq_ignore_ascii_case charset (codes "utf-8")

-- 5: the charset is utf-8, letters without case (RFC 8011 section 4.1.4.1)
abbrev pub charset_check : List PlainAttribute → Check
charset_check attributes =
    refused_where (not (is_utf_8 (charset_first attributes))) 0x040D words.Charset

-- ---- what it is for

-- 6: there is a target (RFC 8011 section 4.1.5)
abbrev pub target_check : Option NamedTarget → Check
target_check target = refused_where (is_none target) 0x0400 words.Target

-- 7: its URI is no longer than a URI may be (RFC 8011 section 5.1.6)
abbrev pub target_length_check : NamedTarget → Check
target_length_check target =
    refused_where (nat_lt longest_uri (length (uri_of target))) 0x0409 words.TargetTooLong

-- 8: it leads to the account's queue (RFC 8011 section 4.1.5)
abbrev pub queue_check : Option PlainTarget → Check
queue_check target = refused_where (is_none target) 0x0406 words.NotThisQueue

-- where there is none, another
abbrev pub named_target : Operation → List PlainAttribute → NamedTarget
named_target operation attributes = unwrap_or (target_in operation attributes) (JobUri [])

-- where it leads, if it leads to the queue
unfoldable pub target_of : (account : List ℕ) (operation : Operation)
    (attributes : List PlainAttribute) → PlainTarget
target_of account operation attributes =
    unwrap_or (reached account (named_target operation attributes)) (at_job [] 0)

-- ---- what its operation attributes say

-- 9: each that is read is of its syntax (RFC 8011 section 5.1)
abbrev pub syntax_check : Operation → List PlainAttribute → Check
syntax_check operation attributes =
    refused_where (any_is_wrong operation attributes) 0x0400 words.Syntax

-- 10: nothing is compressed (RFC 8011 section 4.2.1.1)
abbrev pub compression_check : Operation → List PlainAttribute → Check
compression_check operation attributes =
    refused_where
    (not (is_none_if_said (bytes_of fields.Compression operation attributes)))
    0x040F words.Compression

-- 11: the format of the document is known (RFC 8011 section 4.2.1.1)
abbrev pub document_format_check : Operation → List PlainAttribute → Check
document_format_check operation attributes =
    refused_where (is_none (document_format operation attributes)) 0x040A words.DocumentFormat

-- 12: jobs that have ended or that have not (RFC 8011 section 4.2.6.1)
abbrev pub which_jobs_check : Operation → List PlainAttribute → Check
which_jobs_check operation attributes =
    refused_where (is_none (which_jobs operation attributes)) 0x040B words.WhichJobs

abbrev pub is_empty : List ℕ → Bool
is_empty [] = true
is_empty (c ∷ rest) = false

-- 13: where there is a password, its encryption is told (this project's rule, as 14 and 15)
abbrev pub password_encryption_missing_check : Operation → List PlainAttribute → Check
password_encryption_missing_check operation attributes =
    refused_where
    (not (is_empty (password operation attributes))
    && is_none (bytes_of fields.PasswordEncryption operation attributes))
    0x0400 words.PasswordEncryptionMissing

-- 14: no password is encrypted
abbrev pub password_encryption_check : Operation → List PlainAttribute → Check
password_encryption_check operation attributes =
    refused_where
    (not (is_none_if_said (bytes_of fields.PasswordEncryption operation attributes)))
    0x040B words.PasswordEncryption

-- 15: the password is short enough
abbrev pub password_length_check : Operation → List PlainAttribute → Check
password_length_check operation attributes =
    refused_where
    (nat_lt longest_password (length (password operation attributes)))
    0x0409 words.PasswordTooLong

-- 16: the name of the job is (RFC 8011 section 5.3.5)
abbrev pub job_name_length_check : Operation → List PlainAttribute → Check
job_name_length_check operation attributes =
    refused_where
    (nat_lt longest_job_name (length (job_name operation attributes)))
    0x0409 words.JobNameTooLong

-- ---- its job template attributes and its document; from here on the attributes that are not
-- supported go with a refusal

abbrev pub some_attribute : List PlainAttribute → Bool
some_attribute [] = false
some_attribute (attribute ∷ more) = true

-- 17: the requester does not insist on what is not supported (RFC 8011 section 4.2.1.1)
abbrev pub template_check : (insists : Bool) (unsupported : List PlainAttribute) → Check
template_check insists unsupported =
    refused_with unsupported (insists && some_attribute unsupported) 0x040B words.Template

-- 18: the document is short enough (this project's rule)
abbrev pub document_check : (operation : Operation) (unsupported : List PlainAttribute)
    (payload : List ℕ) → Check
document_check operation unsupported payload =
    refused_with
    unsupported
    (hands_in_document operation && nat_lt longest_document (length payload))
    0x0408 words.DocumentTooLarge
