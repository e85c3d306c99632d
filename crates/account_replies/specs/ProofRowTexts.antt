-- For the proof of the code alone: what is written of a table of attributes, row by row.
use Rattle.std.specs.Prelude.{ℕ, Bool, if◌then◌else◌, List, [], ◌∷◌, Option}
use Rattle.ipp_coding.specs.Spelling.{attribute_spelling}
use Rattle.account_replies.specs.Places.{PlainPlace}
use Rattle.account_replies.specs.Tables.{ShownRow, is_wanted, row_attribute}

-- of a list with a flag for each, those whose flag is set
abbrev pub picked : {A : Type 0} → (flags : List Bool) (rows : List A) → List A
picked [] xs = []
picked (flag ∷ flags) [] = []
picked (flag ∷ flags) (x ∷ xs) = if flag then x ∷ picked flags xs else picked flags xs

abbrev pub text_where : {Thing : Type 0} → (is_shown : Bool) (at : PlainPlace) (thing : Thing)
    (row : ShownRow Thing) → List ℕ
text_where is_shown at thing row =
    if is_shown then attribute_spelling (row_attribute at thing row) else []

abbrev pub row_text : {Thing : Type 0} → (wanted : Option (List (List ℕ))) (at : PlainPlace)
    (thing : Thing) (row : ShownRow Thing) → List ℕ
row_text wanted at thing row = text_where (is_wanted wanted row.name row.group) at thing row
