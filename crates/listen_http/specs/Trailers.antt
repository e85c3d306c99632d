-- Rule: The fields after a body in chunks (RFC 9112 section 7.1.2): 64 at most, of 4096 bytes at
-- most with the empty line after them (this project's limits). What they say is ignored.
use Rattle.std.specs.Prelude.{◌≡◌, ℕ, ◌≤◌, List, ◌++◌, length, All}
use Rattle.httparse.specs.Grammar.{Field, IsField, LineEnd, print_section}
use Rattle.input_http.specs.Limits.{longest_trailers, most_fields}

-- fields, and how the empty line ends
pub record Section : Type 0 where
  pub fields : List Field
  pub last : LineEnd

abbrev pub print_trailers : Section → List ℕ
print_trailers section = print_section section.fields section.last

pub record AreTrailers (section : Section) : Type 0 where
  pub each : All IsField section.fields
  pub few : length section.fields ≤ most_fields
  pub short : length (print_trailers section) ≤ longest_trailers

-- none are at the front
abbrev pub HasNoTrailers : List ℕ → Type 0
HasNoTrailers b = (section : Section) (rest : List ℕ) → AreTrailers section
    → b ≡ print_trailers section ++ rest → ⊥
