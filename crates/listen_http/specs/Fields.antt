-- Rule: The fields of a head by their names, which are compared in any case (RFC 9110 section 5.1).
use Rattle.std.specs.Prelude.{ℕ, Bool, List, [], ◌∷◌, if◌then◌else◌}
use Rattle.input_http.specs.Words.{is_same_word}
use Rattle.listen_http.specs.declared.fields.Field.{Field}

-- a name, and the value without the white space round it
abbrev pub NameAndValue : Type 0
NameAndValue = List ℕ × List ℕ

abbrev pub plain_field : Field → NameAndValue
plain_field field = (field.name.now, field.value.now)

abbrev pub is_named : (name : List ℕ) (field : NameAndValue) → Bool
is_named name field = is_same_word field.0 name

-- the values of the fields of a name, in order
abbrev pub values_named : (name : List ℕ) (fields : List NameAndValue) → List (List ℕ)
values_named name [] = []
values_named name (field ∷ fields) =
    if is_named name field then field.1 ∷ values_named name fields else values_named name fields
