-- For the proof of the code alone: the values of a form's fields, as they are put one behind another.
use Rattle.std.specs.Prelude.{◌≡◌, ℕ, List, [], ◌∷◌, map, Bool, true, false}
use Rattle.std.specs.List.{join_with_byte}
use Rattle.serve_desk.specs.Lines.{value_of}

abbrev pub behind_space : (is_first : Bool) (value : List ℕ) → List ℕ
behind_space true value = value
behind_space false value = 32 ∷ value

abbrev pub is_none : List (List ℕ) → Bool
is_none [] = true
is_none (field ∷ fields) = false

-- the line has the values of these fields
pub record HasValues (line : List ℕ) (is_first : Bool) (fields : List (List ℕ)) : Type 0 where
  pub line_is : line ≡ join_with_byte 32 (map value_of fields)
  pub first_is : is_first ≡ is_none fields
