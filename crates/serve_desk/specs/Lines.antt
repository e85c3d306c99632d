-- Rule: The line that a form of the desk spells (application/x-www-form-urlencoded, URL Standard section 5.1;
-- else this project's own).
use Rattle.std.specs.Prelude.{ℕ, ◌==◌, List, codes, drop, length, map, unwrap_or}
use Rattle.std.specs.List.{join_with_byte, slice_split}
use Rattle.account_rules.specs.QueuePaths.{behind}
use Rattle.input_http.specs.Words.{before}

-- what stands behind the first "="
abbrev pub value_of : (field : List ℕ) → List ℕ
value_of field = unwrap_or (behind (codes "=") (drop (length (before 61 field)) field)) (codes "")

-- The values of its fields, in order, with a space between them. Nothing is decoded, since what a form
-- has to encode stands in no line.
abbrev pub line_of : (form : List ℕ) → List ℕ
line_of form = join_with_byte 32 (map value_of (slice_split (λ byte. byte == 38) form))
