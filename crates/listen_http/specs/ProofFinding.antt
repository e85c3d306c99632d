-- For the proof of the code alone: what a look-up of a field has found so far.
use Rattle.std.specs.Prelude.{◌≡◌, ℕ, List, [], ◌∷◌, ◌++◌}
use Rattle.listen_http.specs.declared.fields.Found.{Found}
use Rattle.listen_http.specs.declared.fields.Found.TheVariants.{Absent, One, Many}

-- what was found among these values
abbrev pub FoundIs : (values : List (List ℕ)) (found : Found) → Type 0
FoundIs values Absent = values ≡ []
FoundIs values (One value) = values ≡ value.now ∷ []
FoundIs values (Many first) =
    (second : List ℕ) × (others : List (List ℕ)) × (values ≡ first.now ∷ second ∷ others)

-- the same with one more value
abbrev pub FindsMore : (old : Found) (value : List ℕ) (new : Found) → Type 0
FindsMore old value new =
    (values : List (List ℕ)) → FoundIs values old → FoundIs (values ++ value ∷ []) new
