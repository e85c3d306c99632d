-- Rule: What a value has to be under its attribute (RFC 8011 section 5.1). The tags are exact: a
-- text is no name, and an enum no integer.
use Rattle.std.specs.Prelude.{ℕ, zero, suc, ℤ, pos, negsuc, Bool, false, ◌==◌, ◌||◌, if◌then◌else◌, List, Option, Some, None, is_some, option_and_then}
use Rattle.std.specs.List.{list_all}
use Rattle.ipp_coding.specs.Plain.{PlainValue}
use Rattle.ipp_coding.specs.Values.{int_said, bool_said, text_said}
use Rattle.account_asks.specs.Requests.{lone_value}
use Rattle.account_asks.specs.declared.syntax.Syntax as syntax
use Rattle.account_asks.specs.declared.syntax.Syntax.TheVariants as syntaxes

-- a name is a nameWithoutLanguage 0x42, or the text of a nameWithLanguage 0x36 (RFC 8011 section
-- 5.1.3)
abbrev pub is_name_tag : ℕ → Bool
is_name_tag tag = tag == 0x42 || tag == 0x36

abbrev pub name_said : PlainValue → Option (List ℕ)
name_said value = if is_name_tag value.tag then text_said value else None

abbrev pub from_zero : ℤ → Option ℕ
from_zero (pos n) = Some n
from_zero (negsuc n) = None

abbrev pub from_one : ℕ → Option ℕ
from_one zero = None
from_one (suc n) = Some (suc n)

-- an integer 0x21
abbrev pub integer_said : PlainValue → Option ℤ
integer_said value = if value.tag == 0x21 then int_said value else None

-- that is at least 0
abbrev pub count_said : PlainValue → Option ℕ
count_said value = option_and_then from_zero (integer_said value)

-- that is at least 1
abbrev pub positive_said : PlainValue → Option ℕ
positive_said value = option_and_then from_one (count_said value)

-- a value is of the syntax
abbrev pub is_value_of : syntax.Syntax → PlainValue → Bool
is_value_of syntaxes.Name value = is_some (name_said value)
is_value_of syntaxes.Boolean value = is_some (bool_said value)
is_value_of syntaxes.Count value = is_some (count_said value)
is_value_of syntaxes.Positive value = is_some (positive_said value)
is_value_of syntaxes.Octets value = value.tag == 0x30
is_value_of syntaxes.Keyword value = value.tag == 0x44
is_value_of syntaxes.Keywords value = value.tag == 0x44
is_value_of syntaxes.MediaType value = value.tag == 0x49

abbrev pub is_lone : syntax.Syntax → Option PlainValue → Bool
is_lone kind None = false
is_lone kind (Some value) = is_value_of kind value

-- the values of an attribute are: one, and of keywords one or more
abbrev pub are_values_of : syntax.Syntax → List PlainValue → Bool
are_values_of syntaxes.Keywords values = list_all (is_value_of syntaxes.Keywords) values
are_values_of kind values = is_lone kind (lone_value values)
