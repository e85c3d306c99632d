-- Rule: How words make a line, with a space between each two (this project's own).
use Rattle.std.specs.Prelude.{ℕ, List, [], ◌∷◌, ◌++◌, codes}

-- a space between each two
abbrev pub line_of : (words : List (List ℕ)) → List ℕ
line_of [] = []
line_of (last ∷ []) = last
line_of (word ∷ next ∷ rest) = word ++ codes " " ++ line_of (next ∷ rest)
