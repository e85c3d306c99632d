-- A request that passes its checks asks for what lies within the limits.
use Rattle.std.proofs.Common.{◌≡◌, ℕ, zero, suc, ◌≤◌, ◌-◌, ◌^◌, pos, negsuc, Bool, true, false, ◌&&◌, ◌==◌, nat_lt, nat_le, if◌then◌else◌, List, length, Option, Some, None, Ok, refl, subst, arith}
use Rattle.std.specs.Prelude.{IfSome, codes, option_and_then, unwrap_or}
use Rattle.std.specs.Int.{w32, cast_signed}
use Rattle.std.proofs.lemmas.Bool.{leb-true, ltb-false}
use Rattle.std.proofs.lemmas.Bool.Decides.{nat_tests}
use mir.Val.{sel}
use Rattle.ipp_coding.specs.Plain.{PlainValue, PlainAttribute, PlainMessage}
use Rattle.ipp_coding.specs.Reading.{header_in, message_of}
use Rattle.ipp_coding.specs.Values.{is_number_tag}
use Rattle.ipp_coding.specs.declared.message.Header.{Header}
use Rattle.account_asks.specs.Asks.{PlainAsk, asked, ask_of, read_as}
use Rattle.account_asks.specs.CheckOrder.{checks, message_or_nothing}
use Rattle.account_asks.specs.Fields.{fields_of, impressions, job_name, password}
use Rattle.account_asks.specs.Operations.{hands_in_document, operation_of}
use Rattle.account_asks.specs.Refusals.{first_refusal}
use Rattle.account_asks.specs.Requests.{lone_value, named, operation_attributes}
use Rattle.account_asks.specs.Syntaxes.{count_said, from_one, from_zero, positive_said}
use Rattle.account_asks.specs.Templates.{copies, copies_said, template_attributes, up_to_most}
use Rattle.account_asks.specs.declared.operation.Operation.{Operation}
use Rattle.account_laws.proofs.FirstFound.{passed, second_false}
use Rattle.account_laws.proofs.PassedChecks.{Passes, all_pass, nothing_asked}
use Rattle.account_rules.specs.Limits.{longest_document, longest_job_name, longest_password, most_copies, most_impressions}

-- what a room needs to know of a request
pub record IsWithin (ask : PlainAsk) : Type 0 where
  pub name_fits : length ask.name ≤ longest_job_name
  pub password_fits : length ask.password ≤ longest_password
  pub copies_from_one : 1 ≤ ask.copies
  pub copies_at_most : ask.copies ≤ most_copies
  pub impressions_at_most : ask.impressions ≤ most_impressions
  pub document_fits : hands_in_document ask.operation ≡ true → length ask.payload ≤ longest_document

-- ---- impressions

-- a number of 32 bits with a sign
signed_within : (is_integer is_number is_low : Bool) (n below : ℕ) → (is_low ≡ true → n ≤ most_impressions) →
    IfSome (option_and_then from_zero (if is_integer then (if is_number then Some (sel is_low (pos n) (negsuc below)) else None) else None)) (λ count. count ≤ most_impressions)
signed_within false is_number is_low n below low = tt
signed_within true false is_low n below low = tt
signed_within true true true n below low = low refl
signed_within true true false n below low = tt

is_below : (n : ℕ) → nat_lt n (2 ^ 31) ≡ true → n ≤ most_impressions
is_below n is = grind (arith, nat_tests)

integer_within : (is_integer is_number : Bool) (n : ℕ) → IfSome (option_and_then from_zero (if is_integer then (if is_number then Some (cast_signed w32 n) else None) else None)) (λ count. count ≤ most_impressions)
integer_within is_integer is_number n = signed_within is_integer is_number (nat_lt n (2 ^ 31)) n (2 ^ 32 - suc n) (is_below n)

-- a count that is said
count_within : (value : PlainValue) → IfSome (count_said value) (λ count. count ≤ most_impressions)
count_within value = integer_within (value.tag == 0x21) (is_number_tag value.tag && (length value.bytes == 4)) _

or_none : (o : Option ℕ) → IfSome o (λ count. count ≤ most_impressions) → unwrap_or o 0 ≤ most_impressions
or_none None within = omega arith
or_none (Some count) within = within

said_within : (o : Option PlainValue) → unwrap_or (option_and_then count_said o) 0 ≤ most_impressions
said_within None = omega arith
said_within (Some value) = or_none (count_said value) (count_within value)

impressions_within : (operation : Operation) (attributes : List PlainAttribute) → impressions operation attributes ≤ most_impressions
unfolding impressions
impressions_within operation attributes = search said_within

-- ---- copies

abbrev AreCopies : ℕ → Type 0
AreCopies n = (1 ≤ n) × (n ≤ most_copies)

up_to_most_within : (fits : Bool) (n : ℕ) → (fits ≡ true → AreCopies n) → IfSome (if fits then Some n else None) AreCopies
up_to_most_within true n are = are refl
up_to_most_within false n are = tt

-- copies that are said
number_within : (n : ℕ) → IfSome (option_and_then up_to_most (from_one n)) AreCopies
number_within zero = tt
number_within (suc n) = up_to_most_within (nat_le (suc n) most_copies) (suc n) (λ is. (omega arith, leb-true (suc n) most_copies is))

positive_within : (o : Option ℕ) → IfSome (option_and_then up_to_most (option_and_then from_one o)) AreCopies
positive_within None = tt
positive_within (Some n) = number_within n

value_within : (o : Option PlainValue) → IfSome (option_and_then up_to_most (option_and_then positive_said o)) AreCopies
value_within None = tt
value_within (Some value) = positive_within (count_said value)

or_one : (o : Option ℕ) → IfSome o AreCopies → AreCopies (unwrap_or o 1)
or_one None are = (omega arith, omega arith)
or_one (Some n) are = are

attribute_within : (o : Option PlainAttribute) → AreCopies (unwrap_or (option_and_then copies_said o) 1)
attribute_within None = (omega arith, omega arith)
attribute_within (Some attribute) = or_one (copies_said attribute) (value_within (lone_value attribute.values))

copies_within : (attributes : List PlainAttribute) → AreCopies (copies attributes)
unfolding copies
copies_within attributes = attribute_within (named (codes "copies") attributes)

-- ---- the whole

-- what is asked then
message_within : (account : List ℕ) (header : Header) (m : PlainMessage) → Passes account header (operation_of header) m → IsWithin (asked account header (operation_of header) m)
unfolding asked fields_of
message_within account header m passes =
    let operation = operation_of header in
    let attributes = operation_attributes m in
    let many = copies_within (template_attributes operation m) in
    record {
      name_fits = ltb-false longest_job_name (length (job_name operation attributes)) passes.name_fits;
      password_fits = ltb-false longest_password (length (password operation attributes)) passes.password_fits;
      copies_from_one = many.0;
      copies_at_most = many.1;
      impressions_at_most = impressions_within operation attributes;
      document_fits = λ hands. ltb-false longest_document (length m.payload) (second_false (hands_in_document operation) (nat_lt longest_document (length m.payload)) passes.document hands);
    }

-- what is read passes its checks, and is what is asked
pub message_passed : (account : List ℕ) (header : Header) (message : Option PlainMessage) (ask : PlainAsk) → read_as account header message ≡ Ok ask →
    (first_refusal (checks account header message) ≡ None) × (asked account header (operation_of header) (message_or_nothing header message) ≡ ask)
message_passed account header message ask is = passed (first_refusal (checks account header message)) (asked account header (operation_of header) (message_or_nothing header message)) ask is

read_within : (account : List ℕ) (header : Header) (message : Option PlainMessage) (ask : PlainAsk) → read_as account header message ≡ Ok ask → IsWithin ask
read_within account header None ask is = absurd (nothing_asked account header ask is)
read_within account header (Some m) ask is =
    let both = message_passed account header (Some m) ask is in
    subst IsWithin both.1 (message_within account header m (all_pass account header m both.0))

-- whatever the body
pub ask_within : (account body : List ℕ) (ask : PlainAsk) → ask_of account body ≡ Ok ask → IsWithin ask
unfolding ask_of
ask_within account body ask is = read_within account (header_in body) (message_of body) ask is
