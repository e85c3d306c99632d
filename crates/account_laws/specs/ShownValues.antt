-- Values of the attributes of an answer, by their syntaxes (RFC 8010 sections 3.5.2 and 3.9).
use Rattle.std.specs.Prelude.{ℕ, Bool, if◌then◌else◌, List, [], ◌∷◌, ◌++◌}
use Rattle.std.specs.Int.{to_be_bytes, w32}
use Rattle.ipp_coding.specs.Plain.{PlainValue}

abbrev pub value_under : (tag : ℕ) (bytes : List ℕ) → PlainValue
value_under tag bytes = record { tag = tag; bytes = bytes }

-- of an attribute that has one value
abbrev pub one_under : (tag : ℕ) (bytes : List ℕ) → List PlainValue
one_under tag bytes = value_under tag bytes ∷ []

-- ---- one value of each syntax

-- four bytes, the highest first
abbrev pub integer : ℕ → List PlainValue
integer n = one_under 0x21 (to_be_bytes w32 n)

-- as an integer
abbrev pub enum : ℕ → List PlainValue
enum n = one_under 0x23 (to_be_bytes w32 n)

-- the lower and the upper bound, each as an integer
abbrev pub range : (low high : ℕ) → List PlainValue
range low high = one_under 0x33 (to_be_bytes w32 low ++ to_be_bytes w32 high)

-- one byte
abbrev pub boolean : Bool → List PlainValue
boolean b = one_under 0x22 (if b then 1 ∷ [] else 0 ∷ [])

-- those that have their text
abbrev pub text_without_language : List ℕ → List PlainValue
text_without_language text = one_under 0x41 text

abbrev pub name_without_language : List ℕ → List PlainValue
name_without_language text = one_under 0x42 text

abbrev pub keyword : List ℕ → List PlainValue
keyword text = one_under 0x44 text

abbrev pub uri : List ℕ → List PlainValue
uri text = one_under 0x45 text

abbrev pub charset : List ℕ → List PlainValue
charset text = one_under 0x47 text

abbrev pub language : List ℕ → List PlainValue
language text = one_under 0x48 text

abbrev pub media_type : List ℕ → List PlainValue
media_type text = one_under 0x49 text

-- and those that have no bytes (RFC 8011 section 5.1.1)
abbrev pub unknown : List PlainValue
unknown = one_under 0x12 []

abbrev pub no_value : List PlainValue
no_value = one_under 0x13 []
