-- Rule: The operation attributes that are read: one table, and what they say.
use Rattle.std.specs.Prelude.{ℕ, Bool, true, false, ◌==◌, ◌&&◌, not, if◌then◌else◌, List, [], ◌∷◌, map, Option, Some, None, codes, option_map, option_and_then, position, unwrap_or, bytes_eq}
use Rattle.std.specs.List.{list_any}
use Rattle.ipp_coding.specs.Plain.{PlainValue, PlainAttribute}
use Rattle.ipp_coding.specs.Values.{bool_said}
use Rattle.account_rules.specs.Formats.{format_named}
use Rattle.account_rules.specs.declared.format.Format as format
use Rattle.account_rules.specs.declared.format.Format.TheVariants as formats
use Rattle.account_asks.specs.declared.operation.Operation.{Operation}
use Rattle.account_asks.specs.declared.field.Field.{Field}
use Rattle.account_asks.specs.declared.field.Field.TheVariants.{JobName, Fidelity, Impressions, Password, PasswordEncryption, DocumentFormat, Compression, LastDocument, WhichJobs, Limit, MyJobs, RequestedAttributes}
use Rattle.account_asks.specs.declared.syntax.Syntax.{Syntax}
use Rattle.account_asks.specs.declared.syntax.Syntax.TheVariants.{Name, Boolean, Count, Positive, Octets, Keyword, Keywords, MediaType}
use Rattle.account_asks.specs.declared.ask.Which as which
use Rattle.account_asks.specs.declared.ask.Which.TheVariants as whiches
use Rattle.account_asks.specs.Operations.{makes_job, describes_document, is_send_document, is_get_jobs, lists_attributes}
use Rattle.account_asks.specs.Requests.{up_to, named, lone_value}
use Rattle.account_asks.specs.Syntaxes.{are_values_of, name_said, count_said, positive_said}

-- an attribute: its name, the syntax of its values, and the operations that read it
pub record ReadRow : Type 0 where
  pub name : List ℕ
  pub syntax : Syntax
  pub is_read_by : Operation → Bool

abbrev pub row : (name : List ℕ) (syntax : Syntax) (is_read_by : Operation → Bool) → ReadRow
row name syntax is_read_by = record { name = name; syntax = syntax; is_read_by = is_read_by }

-- RFC 8011 sections 4.2.1.1, 4.2.5.1, 4.2.6.1, 4.3.1.1, 4.3.4.1 and 5.3.17.2, and PWG 5100.11 for
-- the passwords
abbrev pub row_of : Field → ReadRow
row_of JobName = row (codes "job-name") Name makes_job
row_of Fidelity = row (codes "ipp-attribute-fidelity") Boolean makes_job
row_of Impressions = row (codes "job-impressions") Count makes_job
row_of Password = row (codes "job-password") Octets makes_job
row_of PasswordEncryption = row (codes "job-password-encryption") Keyword makes_job
row_of DocumentFormat = row (codes "document-format") MediaType describes_document
row_of Compression = row (codes "compression") Keyword describes_document
row_of LastDocument = row (codes "last-document") Boolean is_send_document
row_of WhichJobs = row (codes "which-jobs") Keyword is_get_jobs
row_of Limit = row (codes "limit") Positive is_get_jobs
row_of MyJobs = row (codes "my-jobs") Boolean is_get_jobs
row_of RequestedAttributes = row (codes "requested-attributes") Keywords lists_attributes

abbrev pub all_fields : List Field
all_fields =
    JobName ∷ Fidelity ∷ Impressions ∷ Password ∷ PasswordEncryption ∷ DocumentFormat ∷ Compression
    ∷ LastDocument ∷ WhichJobs ∷ Limit ∷ MyJobs ∷ RequestedAttributes ∷ []

-- only last-document has to be there (RFC 8011 section 4.3.1.1)
abbrev pub may_be_absent : Field → Bool
may_be_absent LastDocument = false
may_be_absent _ = true

abbrev pub is_well : Field → Option PlainAttribute → Bool
is_well field None = may_be_absent field
is_well field (Some attribute) = are_values_of (row_of field).syntax attribute.values

-- the operation reads it, and it is not as it has to be
unfoldable pub is_wrong : Operation → List PlainAttribute → Field → Bool
is_wrong operation attributes field =
    (row_of field).is_read_by operation
    && not (is_well field (named (row_of field).name attributes))

unfoldable pub any_is_wrong : Operation → List PlainAttribute → Bool
any_is_wrong operation attributes = list_any (is_wrong operation attributes) all_fields

-- ---- what an attribute says to an operation that reads it

unfoldable pub values_of : Field → Operation → List PlainAttribute → Option (List PlainValue)
values_of field operation attributes =
    if (row_of field).is_read_by operation
    then option_map (λ attribute. attribute.values) (named (row_of field).name attributes)
    else None

unfoldable pub value_of : Field → Operation → List PlainAttribute → Option PlainValue
value_of field operation attributes =
    option_and_then lone_value (values_of field operation attributes)

abbrev pub bytes_of : Field → Operation → List PlainAttribute → Option (List ℕ)
bytes_of field operation attributes =
    option_map (λ value. value.bytes) (value_of field operation attributes)

abbrev pub unless_empty : List ℕ → Option (List ℕ)
unless_empty [] = None
unless_empty (c ∷ rest) = Some (c ∷ rest)

abbrev pub given_name : Operation → List PlainAttribute → Option (List ℕ)
given_name operation attributes =
    option_and_then
    unless_empty
    (option_and_then name_said (value_of JobName operation attributes))

-- a job without a name, or with an empty one, is untitled (this project's rule)
unfoldable pub job_name : Operation → List PlainAttribute → List ℕ
job_name operation attributes =
    unwrap_or (given_name operation attributes) (codes "untitled")

unfoldable pub fidelity : Operation → List PlainAttribute → Bool
fidelity operation attributes =
    unwrap_or (option_and_then bool_said (value_of Fidelity operation attributes)) false

-- 0 where unknown
unfoldable pub impressions : Operation → List PlainAttribute → ℕ
impressions operation attributes =
    unwrap_or (option_and_then count_said (value_of Impressions operation attributes)) 0

-- empty for none
unfoldable pub password : Operation → List PlainAttribute → List ℕ
password operation attributes = unwrap_or (bytes_of Password operation attributes) []

unfoldable pub last_document : Operation → List PlainAttribute → Bool
last_document operation attributes =
    unwrap_or (option_and_then bool_said (value_of LastDocument operation attributes)) false

-- None for all
unfoldable pub limit : Operation → List PlainAttribute → Option ℕ
limit operation attributes = option_and_then positive_said (value_of Limit operation attributes)

abbrev pub names_of : List PlainValue → List (List ℕ)
names_of values = map (λ (value : PlainValue). value.bytes) values

-- None for what the operation shows by default
unfoldable pub wanted : Operation → List PlainAttribute → Option (List (List ℕ))
wanted operation attributes =
    option_map names_of (values_of RequestedAttributes operation attributes)

-- ---- keywords and media types

-- `none` alone is known of compressions and encryptions, and need not be said
abbrev pub is_none_if_said : Option (List ℕ) → Bool
is_none_if_said None = true
is_none_if_said (Some keyword) = bytes_eq keyword (codes "none")

-- up to the first ";"
abbrev pub without_parameters : List ℕ → List ℕ
without_parameters text = up_to (position (λ c. c == 59) text) text

abbrev pub format_said : Option (List ℕ) → Option format.Format
format_said None = Some formats.OctetStream
format_said (Some text) = format_named (without_parameters text)

unfoldable pub document_format : Operation → List PlainAttribute → Option format.Format
document_format operation attributes = format_said (bytes_of DocumentFormat operation attributes)

-- the jobs that Get-Jobs may ask for, by default those that have not ended (RFC 8011 section
-- 4.2.6.1)
abbrev pub which_named : Option (List ℕ) → Option which.Which
which_named None = Some whiches.NotCompleted
which_named (Some keyword) =
    if bytes_eq keyword (codes "completed") then Some whiches.Completed
    else if bytes_eq keyword (codes "not-completed") then Some whiches.NotCompleted
    else None

unfoldable pub which_jobs : Operation → List PlainAttribute → Option which.Which
which_jobs operation attributes = which_named (bytes_of WhichJobs operation attributes)

-- ---- all that is said in one value

pub record PlainFields : Type 0 where
  pub insists : Bool
  pub name : List ℕ
  pub password : List ℕ
  pub impressions : ℕ
  pub format : format.Format
  pub last : Bool
  pub which : which.Which
  pub limit : Option ℕ

unfoldable pub fields_of : Operation → List PlainAttribute → PlainFields
fields_of operation attributes = record {
  insists = fidelity operation attributes;
  name = job_name operation attributes;
  password = password operation attributes;
  impressions = impressions operation attributes;
  format = unwrap_or (document_format operation attributes) formats.OctetStream;
  last = last_document operation attributes;
  which = unwrap_or (which_jobs operation attributes) whiches.NotCompleted;
  limit = limit operation attributes;
}
