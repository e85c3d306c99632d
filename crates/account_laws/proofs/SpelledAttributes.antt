-- Attributes of a message: which of them is found, and what its values say.
use Rattle.std.proofs.Common.{◌≡◌, ◌≢◌, inl, inr, ℕ, zero, suc, ◌-◌, ◌<◌, ◌≤◌, ◌^◌, ℤ, pos, negsuc, Bool, true, false, true≢false, cond, ◌&&◌, ◌||◌, ◌==◌, nat_lt, length, List, [], ◌∷◌, ◌++◌, Option, Some, None, option_and_then, refl, sym, ap, subst, ◌∙◌, arith}
use mir.Val.{sel}
use Rattle.std.specs.Int.{bytes_high_first, cast_signed, to_be_bytes, w32}
use Rattle.std.specs.List.{AllByRecursion, flat_map}
use Rattle.std.specs.Str.{bytes_eq}
use Rattle.std.proofs.lemmas.Bool.{eqb-true, lt-ltb, ltb-true}
use Rattle.std.proofs.lemmas.List.{drop_at, take_at}
use Rattle.std.proofs.lemmas.Nat.{be_bytes_4}
use Rattle.std.proofs.lemmas.Option.{none-some, same_Some}
use Rattle.std.proofs.lemmas.Slice.Eq.{bytes_eq-Decides}
use Rattle.ipp_coding.proofs.Fields.{IsBytes, IsBytes-drop, IsBytes-tail, IsBytes-take}
use Rattle.ipp_coding.proofs.Texts.{text_again, text_found}
use Rattle.ipp_coding.specs.Plain.{PlainAttribute, PlainGroup, PlainMessage, PlainValue}
use Rattle.ipp_coding.specs.Reading.{header_in}
use Rattle.ipp_coding.specs.Spelling.{Spells, attribute_spelling, field_spelling, first_spelling, further_spelling, group_spelling, header_spelling, values_spelling}
use Rattle.ipp_coding.specs.Tags.{end_tag}
use Rattle.ipp_coding.specs.Values.{bool_in, bool_said, is_number_tag, text_said}
use Rattle.account_asks.specs.Requests.{lone_value, named}
use Rattle.account_asks.specs.Syntaxes.{count_said, from_one, from_zero, integer_said, name_said, positive_said}
use Rattle.account_laws.specs.SpelledAttributes.{HasNone, HasValues, IsBoolean, IsInteger, IsName, IsUnder}

-- ---- each value is of bytes

bytes_apart : (a b : List ℕ) → IsBytes (a ++ b) → IsBytes a × IsBytes b
bytes_apart a b are = (subst IsBytes (take_at a b (length a) refl) (IsBytes-take (length a) (a ++ b) are), subst IsBytes (drop_at a b (length a) refl) (IsBytes-drop (length a) (a ++ b) are))

abbrev pub IsOf : PlainValue → Type 0
IsOf value = IsBytes value.bytes

abbrev pub AreOf : List PlainAttribute → Type 0
AreOf attributes = AllByRecursion (λ (a : PlainAttribute). AllByRecursion IsOf a.values) attributes

field_bytes : (bytes : List ℕ) → IsBytes (field_spelling bytes) → IsBytes bytes
field_bytes bytes are = (bytes_apart (bytes_high_first 2 (length bytes)) bytes are).1

further_bytes : (values : List PlainValue) → IsBytes (flat_map further_spelling values) → AllByRecursion IsOf values
further_bytes [] are = tt
further_bytes (value ∷ values) are =
    let both = bytes_apart (further_spelling value) (flat_map further_spelling values) are in
    let field = IsBytes-tail 0 (field_spelling value.bytes) (IsBytes-tail 0 (0 ∷ field_spelling value.bytes) (IsBytes-tail value.tag (0 ∷ 0 ∷ field_spelling value.bytes) both.0)) in
    (field_bytes value.bytes field, further_bytes values both.1)

values_bytes : (name : List ℕ) (values : List PlainValue) → IsBytes (values_spelling name values) → AllByRecursion IsOf values
values_bytes name [] are = tt
values_bytes name (first ∷ further) are =
    let both = bytes_apart (first_spelling name first) (flat_map further_spelling further) are in
    let field = (bytes_apart (field_spelling name) (field_spelling first.bytes) (IsBytes-tail first.tag (field_spelling name ++ field_spelling first.bytes) both.0)).1 in
    (field_bytes first.bytes field, further_bytes further both.1)

attributes_bytes : (attributes : List PlainAttribute) → IsBytes (flat_map attribute_spelling attributes) → AreOf attributes
attributes_bytes [] are = tt
attributes_bytes (a ∷ attributes) are = let both = bytes_apart (attribute_spelling a) (flat_map attribute_spelling attributes) are in (values_bytes a.name a.values both.0, attributes_bytes attributes both.1)

abbrev pub AreGroupsOf : List PlainGroup → Type 0
AreGroupsOf groups = AllByRecursion (λ (g : PlainGroup). AreOf g.attributes) groups

groups_bytes : (groups : List PlainGroup) → IsBytes (flat_map group_spelling groups) → AreGroupsOf groups
groups_bytes [] are = tt
groups_bytes (g ∷ groups) are = let both = bytes_apart (group_spelling g) (flat_map group_spelling groups) are in (attributes_bytes g.attributes (IsBytes-tail g.tag (flat_map attribute_spelling g.attributes) both.0), groups_bytes groups both.1)

pub message_bytes : (m : PlainMessage) (body : List ℕ) → IsBytes body → Spells m body → AreGroupsOf m.groups
message_bytes m body are spells =
    let whole = subst IsBytes spells.bytes are in
    let behind = (bytes_apart (header_spelling m.header) (flat_map group_spelling m.groups ++ (end_tag ∷ m.payload)) whole).1 in
    groups_bytes m.groups (bytes_apart (flat_map group_spelling m.groups) (end_tag ∷ m.payload) behind).0

-- ---- the attribute with a name

abbrev pub Finds : (name : List ℕ) (attributes : List PlainAttribute) → Option PlainAttribute → Type 0
Finds name attributes None = HasNone name attributes
Finds name attributes (Some a) = HasValues name attributes a.values × AllByRecursion IsOf a.values

pub differ : (a b : List ℕ) → bytes_eq a b ≡ false → a ≢ b
differ a b other same = true≢false (sym ((bytes_eq-Decides a b).1 same) ∙ other)

pub finds : (name : List ℕ) (attributes : List PlainAttribute) → AreOf attributes → Finds name attributes (named name attributes)
finds name [] are = tt
finds name (a ∷ attributes) are = by (named name attributes) (finds name attributes are.1) (bytes_eq a.name name) refl
  where
    by : (found : Option PlainAttribute) → Finds name attributes found → (b : Bool) → bytes_eq a.name name ≡ b → Finds name (a ∷ attributes) (cond b (Some a) found)
    by found rest true same = (record { earlier = []; later = attributes; stands = ap (λ (n : List ℕ). record { name = n; values = a.values } ∷ attributes) ((bytes_eq-Decides a.name name).0 same); is_first = tt }, are.0)
    by None rest false other = (differ a.name name other, rest)
    by (Some x) rest false other = (record { earlier = a ∷ rest.0.earlier; later = rest.0.later; stands = ap (λ (l : List PlainAttribute). a ∷ l) rest.0.stands; is_first = (differ a.name name other, rest.0.is_first) }, rest.1)

-- what is there is found
again : (name : List ℕ) (values : List PlainValue) (earlier later : List PlainAttribute) → AllByRecursion (λ (other : PlainAttribute). other.name ≢ name) earlier → named name (earlier ++ record { name = name; values = values } ∷ later) ≡ Some (record { name = name; values = values })
again name values [] later first = ap (λ (b : Bool). cond b (Some (record { name = name; values = values })) (named name later)) ((bytes_eq-Decides name name).1 refl)
again name values (a ∷ earlier) later first = by (bytes_eq a.name name) refl (again name values earlier later first.1)
  where
    by : (b : Bool) → bytes_eq a.name name ≡ b → named name (earlier ++ record { name = name; values = values } ∷ later) ≡ Some (record { name = name; values = values })
        → cond b (Some a) (named name (earlier ++ record { name = name; values = values } ∷ later)) ≡ Some (record { name = name; values = values })
    by true same rest = absurd (first.0 ((bytes_eq-Decides a.name name).0 same))
    by false other rest = rest

pub found_again : (name : List ℕ) (attributes : List PlainAttribute) (values : List PlainValue) → HasValues name attributes values → named name attributes ≡ Some (record { name = name; values = values })
found_again name attributes values has = ap (named name) has.stands ∙ again name values has.earlier has.later has.is_first

-- what is absent is not found
pub none_again : (name : List ℕ) (attributes : List PlainAttribute) → HasNone name attributes → named name attributes ≡ None
none_again name [] none = refl
none_again name (a ∷ attributes) none = by (bytes_eq a.name name) refl (none_again name attributes none.1)
  where
    by : (b : Bool) → bytes_eq a.name name ≡ b → named name attributes ≡ None → cond b (Some a) (named name attributes) ≡ None
    by true same rest = absurd (none.0 ((bytes_eq-Decides a.name name).0 same))
    by false other rest = rest

-- ---- the one value of an attribute

pub one_of : (values : List PlainValue) (value : PlainValue) → lone_value values ≡ Some value → values ≡ value ∷ []
one_of [] value is = absurd (none-some value is)
one_of (first ∷ []) value is = ap (λ (v : PlainValue). v ∷ []) (same_Some first value is)
one_of (first ∷ second ∷ more) value is = absurd (none-some value is)

-- ---- what a value says

pub is_under : (tag : ℕ) (value : PlainValue) → (value.tag == tag) ≡ true → IsUnder tag value value.bytes
is_under tag value same = (eqb-true value.tag tag same, refl)

-- a number of four bytes
abbrev pub number_in : List ℕ → ℕ
number_in bytes = (header_in (0 ∷ 0 ∷ 0 ∷ 0 ∷ bytes)).request_id

four_again : (bytes : List ℕ) → IsBytes bytes → length bytes ≡ 4 → to_be_bytes w32 (number_in bytes) ≡ bytes
four_again bytes are long = be_bytes_4 bytes (number_in bytes) long are (omega arith)

pub number_again : (n : ℕ) → n < 2 ^ 32 → number_in (to_be_bytes w32 n) ≡ n
number_again n fits = omega (arith, fits)

record IsNumber (value : PlainValue) (z : ℤ) : Type 0 where
  pub tag : value.tag ≡ 0x21
  pub long : length value.bytes ≡ 4
  pub is : cast_signed w32 (number_in value.bytes) ≡ z

is_number : (value : PlainValue) (z : ℤ) → integer_said value ≡ Some z → IsNumber value z
is_number value z said = by (value.tag == 0x21) refl (is_number_tag value.tag) (length value.bytes == 4) refl said
  where
    by : (integer : Bool) → (value.tag == 0x21) ≡ integer → (number long : Bool) → (length value.bytes == 4) ≡ long → cond integer (cond (number && long) (Some (cast_signed w32 (number_in value.bytes))) None) None ≡ Some z → IsNumber value z
    by false tag number long four said = absurd (none-some z said)
    by true tag false long four said = absurd (none-some z said)
    by true tag true false four said = absurd (none-some z said)
    by true tag true true four said = record { tag = eqb-true value.tag 0x21 tag; long = eqb-true (length value.bytes) 4 four; is = same_Some (cast_signed w32 (number_in value.bytes)) z said }

pub integer_tag : (value : PlainValue) (z : ℤ) → integer_said value ≡ Some z → value.tag ≡ 0x21
integer_tag value z said = (is_number value z said).tag

pub integer_four : (value : PlainValue) (z : ℤ) → integer_said value ≡ Some z → length value.bytes ≡ 4
integer_four value z said = (is_number value z said).long

positive_is : (number n : ℕ) → cast_signed w32 number ≡ pos n → (number ≡ n) × (number < 2 ^ 31)
positive_is number n is = by (nat_lt number (2 ^ 31)) refl is
  where
    by : (low : Bool) → nat_lt number (2 ^ 31) ≡ low → sel low (pos number) (negsuc (2 ^ 32 - suc number)) ≡ pos n → (number ≡ n) × (number < 2 ^ 31)
    by true low is = (cc, ltb-true number (2 ^ 31) low)
    by false low is = absurd (let never : ⊥ = cc in never)

pub integer_is : (value : PlainValue) (n : ℕ) → IsOf value → integer_said value ≡ Some (pos n) → IsInteger value n
integer_is value n are said =
    let number = is_number value (pos n) said in
    let same = positive_is (number_in value.bytes) n number.is in
    ((number.tag, sym (four_again value.bytes are number.long) ∙ ap (to_be_bytes w32) same.0), subst (λ (k : ℕ). k < 2 ^ 31) same.0 same.1)

pub integer_again : (value : PlainValue) (n : ℕ) → IsInteger value n → integer_said value ≡ Some (pos n)
integer_again value n is =
    let fits : n < 2 ^ 32 = omega (arith, is.1) in
    ap (λ (tag : ℕ). integer_said (record { tag = tag; bytes = value.bytes })) is.0.0
    ∙ ap (λ (bytes : List ℕ). integer_said (record { tag = 0x21; bytes = bytes })) is.0.1
    ∙ ap (λ (k : ℕ). Some (cast_signed w32 k)) (number_again n fits)
    ∙ ap (λ (b : Bool). Some (sel b (pos n) (negsuc (2 ^ 32 - suc n)))) (lt-ltb n (2 ^ 31) is.1)

pub count_is : (value : PlainValue) (n : ℕ) → IsOf value → count_said value ≡ Some n → IsInteger value n
count_is value n are said = by (integer_said value) refl said
  where
    by : (z : Option ℤ) → integer_said value ≡ z → option_and_then from_zero z ≡ Some n → IsInteger value n
    by None is said = absurd (none-some n said)
    by (Some (pos k)) is said = integer_is value n are (is ∙ ap (λ (k : ℕ). Some (pos k)) (same_Some k n said))
    by (Some (negsuc k)) is said = absurd (none-some n said)

pub count_again : (value : PlainValue) (n : ℕ) → IsInteger value n → count_said value ≡ Some n
count_again value n is = ap (option_and_then from_zero) (integer_again value n is)

from_one_is : (k n : ℕ) → from_one k ≡ Some n → (k ≡ n) × (1 ≤ n)
from_one_is zero n said = absurd (none-some n said)
from_one_is (suc k) n said = let same = same_Some (suc k) n said in (same, omega (arith, same))

pub positive_said_is : (value : PlainValue) (n : ℕ) → IsOf value → positive_said value ≡ Some n → IsInteger value n × (1 ≤ n)
positive_said_is value n are said = by (count_said value) refl said
  where
    by : (k : Option ℕ) → count_said value ≡ k → option_and_then from_one k ≡ Some n → IsInteger value n × (1 ≤ n)
    by None is said = absurd (none-some n said)
    by (Some k) is said = let one = from_one_is k n said in (count_is value n are (is ∙ ap Some one.0), one.1)

from_one_again : (n : ℕ) → 1 ≤ n → from_one n ≡ Some n
from_one_again zero from = absurd (omega (arith, from))
from_one_again (suc n) from = refl

pub positive_again : (value : PlainValue) (n : ℕ) → IsInteger value n → 1 ≤ n → positive_said value ≡ Some n
positive_again value n is from = ap (option_and_then from_one) (count_again value n is) ∙ from_one_again n from

-- a boolean
byte_is : (byte : ℕ) (b : Bool) → cond (byte == 0) (Some false) (cond (byte == 1) (Some true) None) ≡ Some b → byte ≡ cond b 1 0
byte_is byte b said = by (byte == 0) refl (byte == 1) refl said
  where
    by : (none : Bool) → (byte == 0) ≡ none → (one : Bool) → (byte == 1) ≡ one → cond none (Some false) (cond one (Some true) None) ≡ Some b → byte ≡ cond b 1 0
    by true none one is said = eqb-true byte 0 none ∙ ap (λ (b : Bool). cond b 1 0) (same_Some false b said)
    by false none true is said = eqb-true byte 1 is ∙ ap (λ (b : Bool). cond b 1 0) (same_Some true b said)
    by false none false is said = absurd (none-some b said)

bool_bytes : (bytes : List ℕ) (b : Bool) → bool_in bytes ≡ Some b → bytes ≡ cond b 1 0 ∷ []
bool_bytes [] b said = absurd (none-some b said)
bool_bytes (byte ∷ []) b said = ap (λ (n : ℕ). n ∷ []) (byte_is byte b said)
bool_bytes (byte ∷ next ∷ more) b said = absurd (none-some b said)

pub boolean_is : (value : PlainValue) (b : Bool) → bool_said value ≡ Some b → IsBoolean value b
boolean_is value b said = by (value.tag == 0x22) refl said
  where
    by : (tag : Bool) → (value.tag == 0x22) ≡ tag → cond tag (bool_in value.bytes) None ≡ Some b → IsBoolean value b
    by true tag said = (eqb-true value.tag 0x22 tag, bool_bytes value.bytes b said)
    by false tag said = absurd (none-some b said)

bool_byte : (b : Bool) → bool_in (cond b 1 0 ∷ []) ≡ Some b
bool_byte true = refl
bool_byte false = refl

pub boolean_again : (value : PlainValue) (b : Bool) → IsBoolean value b → bool_said value ≡ Some b
boolean_again value b is = ap (λ (tag : ℕ). bool_said (record { tag = tag; bytes = value.bytes })) is.0 ∙ ap bool_in is.1 ∙ bool_byte b

-- a name
pub name_is : (value : PlainValue) (text : List ℕ) → IsOf value → name_said value ≡ Some text → IsName value text
name_is value text are said = by (value.tag == 0x42) refl (value.tag == 0x36) refl
  where
    by : (plain : Bool) → (value.tag == 0x42) ≡ plain → (with_language : Bool) → (value.tag == 0x36) ≡ with_language → IsName value text
    by true plain with_language tag =
        let same = eqb-true value.tag 0x42 plain in
        inl (same, same_Some value.bytes text (sym (ap (λ (tag : ℕ). name_said (record { tag = tag; bytes = value.bytes })) same) ∙ said))
    by false plain true tag =
        let same = eqb-true value.tag 0x36 tag in
        inr (same, text_found value.bytes text are (sym (ap (λ (tag : ℕ). name_said (record { tag = tag; bytes = value.bytes })) same) ∙ said))
    by false plain false tag = absurd (none-some text (sym (ap (λ (b : Bool). cond b (text_said value) None) (ap (λ (b : Bool). b || value.tag == 0x36) plain ∙ tag)) ∙ said))

pub name_again : (value : PlainValue) (text : List ℕ) → IsName value text → name_said value ≡ Some text
name_again value text (inl is) = ap (λ (tag : ℕ). name_said (record { tag = tag; bytes = value.bytes })) is.0 ∙ ap (λ (bytes : List ℕ). name_said (record { tag = 0x42; bytes = bytes })) is.1
name_again value text (inr is) = ap (λ (tag : ℕ). name_said (record { tag = tag; bytes = value.bytes })) is.0 ∙ text_again value.bytes text is.1
