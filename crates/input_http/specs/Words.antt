-- Rule: How the value of a header field is cut into parts (RFC 9110 section 5.6).
use Rattle.std.specs.Prelude.{ℕ, ◌==◌, Bool, List, [], ◌∷◌, bytes_eq, if◌then◌else◌, map, reverse, take}
use Rattle.std.specs.Char.{to_ascii_lowercase}
use Rattle.std.specs.List.{list_any, position_or_len}

-- the same word, in any case
abbrev pub is_same_word : (a b : List ℕ) → Bool
is_same_word a b = bytes_eq (map to_ascii_lowercase a) (map to_ascii_lowercase b)

-- what stands before the first such byte, and all where there is none
abbrev pub before : (mark : ℕ) (bytes : List ℕ) → List ℕ
before mark bytes = take (position_or_len (λ b. b == mark) bytes) bytes

-- without the bytes of a margin at its front
abbrev pub without_front : (margin bytes : List ℕ) → List ℕ
without_front margin [] = []
without_front margin (b ∷ bytes) =
    if list_any (λ m. m == b) margin then without_front margin bytes else b ∷ bytes

-- without them at both ends
abbrev pub without_margin : (margin bytes : List ℕ) → List ℕ
without_margin margin bytes = reverse (without_front margin (reverse (without_front margin bytes)))
