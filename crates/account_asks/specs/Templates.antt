-- Rule: The job template attributes: copies, job-hold-until, and all others, which are not
-- supported (RFC 8011 sections 4.1.7 and 5.2).
use Rattle.std.specs.Prelude.{ℕ, Bool, false, not, ◌||◌, ◌&&◌, ◌==◌, nat_le, if◌then◌else◌, List, [], ◌∷◌, map, filter, Option, Some, None, codes, is_some, option_and_then, unwrap_or, bytes_eq}
use Rattle.ipp_coding.specs.Plain.{PlainValue, PlainAttribute, PlainMessage}
use Rattle.account_rules.specs.Limits.{most_copies}
use Rattle.account_asks.specs.declared.operation.Operation.{Operation}
use Rattle.account_asks.specs.Operations.{makes_job}
use Rattle.account_asks.specs.Requests.{is_named, named, lone_value, job_group_of}
use Rattle.account_asks.specs.Syntaxes.{positive_said}

-- a request that makes a job gives them in its job group
unfoldable pub template_attributes : Operation → PlainMessage → List PlainAttribute
template_attributes operation m =
    if makes_job operation then unwrap_or (job_group_of m.groups) [] else []

-- copies: one integer, 1 to 999 (RFC 8011 section 5.2.5)
abbrev pub up_to_most : ℕ → Option ℕ
up_to_most copies = if nat_le copies most_copies then Some copies else None

abbrev pub copies_said : PlainAttribute → Option ℕ
copies_said attribute =
    option_and_then up_to_most (option_and_then positive_said (lone_value attribute.values))

-- 1 where they are absent or not supported
unfoldable pub copies : List PlainAttribute → ℕ
copies attributes = unwrap_or (option_and_then copies_said (named (codes "copies") attributes)) 1

-- job-hold-until: one keyword or name `indefinite` (RFC 8011 section 5.2.2)
abbrev pub is_indefinite : PlainValue → Bool
is_indefinite value =
    (value.tag == 0x44 || value.tag == 0x42) && bytes_eq value.bytes (codes "indefinite")

abbrev pub holds_for_good : Option PlainValue → Bool
holds_for_good None = false
holds_for_good (Some value) = is_indefinite value

abbrev pub is_supported : PlainAttribute → Bool
is_supported attribute =
    if is_named (codes "copies") attribute then is_some (copies_said attribute)
    else if is_named (codes "job-hold-until") attribute
    then holds_for_good (lone_value attribute.values)
    else false

-- the value of an attribute that is not known at all: unsupported 0x10 (RFC 8011 section 4.1.7)
abbrev pub unsupported_values : List PlainValue
unsupported_values = record { tag = 0x10; bytes = [] } ∷ []

abbrev pub is_known : PlainAttribute → Bool
is_known attribute =
    is_named (codes "copies") attribute || is_named (codes "job-hold-until") attribute

-- how it is answered: with its values as they are where the attribute is known, though they are not
abbrev pub returned : PlainAttribute → PlainAttribute
returned attribute =
    if is_known attribute
    then attribute
    else record { name = attribute.name; values = unsupported_values }

-- the first attribute of each name, in the order of the request: of several with one name the first
-- counts (this project's rule)
abbrev pub firsts : List PlainAttribute → List PlainAttribute
firsts [] = []
firsts (attribute ∷ later) =
    attribute ∷ filter (λ other. not (is_named attribute.name other)) (firsts later)

-- those of them that are not supported, as they are answered
unfoldable pub unsupported : List PlainAttribute → List PlainAttribute
unsupported attributes =
    map returned (filter (λ attribute. not (is_supported attribute)) (firsts attributes))
