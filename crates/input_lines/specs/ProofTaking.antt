-- For the proof of the code alone: how the fields of a line are taken, one after another.
use Rattle.std.specs.Prelude.{◌≡◌, ℕ, List, [], ◌∷◌, ◌++◌, Option, Some, None, option_copied}
use Rattle.input_lines.specs.Saying.{HasNoSpace}
use Rattle.input_lines.specs.declared.fields.Fields.{Fields}

-- what is left of a line, if a field is
abbrev pub left : Fields → Option (List ℕ)
left fields = option_copied fields.rest

-- a space, where something is left
abbrev pub space_before : Option (List ℕ) → List ℕ
space_before None = []
space_before (Some rest) = 32 ∷ rest

-- the first field of what was left
pub record TakesField (old new : Option (List ℕ)) (field : List ℕ) : Type 0 where
  pub first : old ≡ Some (field ++ space_before new)
  pub no_space : HasNoSpace field

-- so many fields in their order
abbrev pub TakesFields : (old new : Option (List ℕ)) (fields : List (List ℕ)) → Type 0
TakesFields old new [] = old ≡ new
TakesFields old new (field ∷ fields) =
    (between : Option (List ℕ)) × TakesField old between field × TakesFields between new fields

-- a field that says something
abbrev pub TakesOne : (old new : Option (List ℕ)) (Says : List ℕ → Type 0) → Type 0
TakesOne old new Says = (field : List ℕ) × TakesField old new field × Says field

-- fields that say something
abbrev pub TakesSome : (old new : Option (List ℕ)) (Says : List (List ℕ) → Type 0) → Type 0
TakesSome old new Says =
    (fields : List (List ℕ)) × TakesFields old new fields × Says fields
