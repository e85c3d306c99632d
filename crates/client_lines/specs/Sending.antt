-- Rule: What is sent, and when nothing is left of an input (all this project's own).
use Rattle.std.specs.Prelude.{◌≡◌, ◌≢◌, ◌+◌, All, length, ℕ, ◌==◌, if◌then◌else◌, List, [], ◌∷◌, ◌++◌, codes, Option, Some, IfSome, OnSome}
use Rattle.std.specs.Io.KnownBytes.{Appends, IsAtEnd}

-- bytes of a line that is sent, without the line feed that ends it
abbrev pub longest_line : ℕ
longest_line = 65536

-- a text as whole lines: a line feed comes after the last byte, where that is none
abbrev pub as_lines : (text : List ℕ) → List ℕ
as_lines [] = []
as_lines (last ∷ []) = if last == 10 then last ∷ [] else last ∷ codes "\n"
as_lines (byte ∷ next ∷ rest) = byte ∷ as_lines (next ∷ rest)

-- a line of the text is longer than any may be: no line feed is in so many of its bytes
pub record HasLongLine (text : List ℕ) : Type 0 where
  pub front : List ℕ
  pub line : List ℕ
  pub rest : List ℕ
  pub has : as_lines text ≡ front ++ line ++ rest
  pub is_line : All (λ byte. byte ≢ 10) line
  pub is_long : length line ≡ longest_line + 1

-- a front of the bytes, or all of them, were written after what was there
abbrev pub AppendsUpTo : (before after : Option (List ℕ)) (bytes : List ℕ) → Type 0
AppendsUpTo before after bytes = (front : List ℕ) × (rest : List ℕ) × (bytes ≡ front ++ rest)
    × Appends before after front

-- nothing is left of the input, where it was known what is left
abbrev pub IsAtKnownEnd : (before after : Option (List ℕ)) → Type 0
IsAtKnownEnd before after = OnSome before (IsAtEnd after)

-- what was taken of the input so far was sent as whole lines
abbrev pub SendsOn : (input_before input_after before after : Option (List ℕ)) → Type 0
SendsOn input_before input_after before after = IfSome input_before
    (λ text. (rest : List ℕ) × (input_after ≡ Some rest)
    × (sent : List ℕ) × (as_lines text ≡ sent ++ as_lines rest) × Appends before after sent)

-- the whole input was sent, each line with the line feed that ends it
abbrev pub SendsAll : (input before after : Option (List ℕ)) → Type 0
SendsAll input before after = IfSome input (λ text. Appends before after (as_lines text))

-- a front of that, or all of it, was sent
abbrev pub SendsFront : (input before after : Option (List ℕ)) → Type 0
SendsFront input before after = IfSome input (λ text. AppendsUpTo before after (as_lines text))
