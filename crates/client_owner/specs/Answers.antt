-- Rule: What attributes of an answer tell (RFC 8011 section 4.1).
use Rattle.std.specs.Prelude.{ℕ, Bool, if◌then◌else◌, nat_lt, List, codes, Option, Some, None, option_and_then}
use Rattle.ipp_coding.specs.Plain.{PlainAttribute, PlainMessage, PlainValue}
use Rattle.ipp_coding.specs.Values.{int_said, text_said}
use Rattle.account_asks.specs.Requests.{job_group_of, lone_value, named, operation_attributes}
use Rattle.account_asks.specs.Syntaxes.{from_zero}
use Rattle.client_lines.specs.Answers.{is_text}

-- of the first attribute with the name, if it has just one value
abbrev pub value_named : (name : List ℕ) (attributes : List PlainAttribute) → Option PlainValue
value_named name attributes = option_and_then (λ a. lone_value a.values) (named name attributes)

-- an integer or an enum, if it is not negative
abbrev pub unsigned_of : PlainValue → Option ℕ
unsigned_of value = option_and_then from_zero (int_said value)

abbrev pub number_named : (name : List ℕ) (attributes : List PlainAttribute) → Option ℕ
number_named name attributes = option_and_then unsigned_of (value_named name attributes)

abbrev pub text_named : (name : List ℕ) (attributes : List PlainAttribute) → Option (List ℕ)
text_named name attributes = option_and_then text_said (value_named name attributes)

-- the status-codes of success (RFC 8011 section B.1.2)
abbrev pub is_success : (code : ℕ) → Bool
is_success code = nat_lt code 0x0100

abbrev pub if_text : (word : List ℕ) → Option (List ℕ)
if_text word = if is_text word then Some word else None

-- why it was refused: the status-message (RFC 8011 section 4.1.6.2), if it can be shown as it is
abbrev pub reason : PlainMessage → Option (List ℕ)
reason message =
    option_and_then if_text (text_named (codes "status-message") (operation_attributes message))

-- the job-id of the job that was made (RFC 8011 section 4.2.1.2)
abbrev pub job_made : PlainMessage → Option ℕ
job_made message = option_and_then (number_named (codes "job-id")) (job_group_of message.groups)
