-- Places in a journal, by which answers stand in the order of what was asked (this project's own).
use Rattle.std.specs.Prelude.{◌≡◌, ◌≤◌, ⊤, ℕ, suc, slice_get, List, [], ◌∷◌, Some}

-- these stand in the list at these places, which rise from the least on
abbrev pub StandAt : {X : Type 0} (least : ℕ) (places : List ℕ) (some all : List X) → Type 0
StandAt least [] [] all = ⊤
StandAt least (place ∷ places) (x ∷ some) all = (least ≤ place)
    × (slice_get all place ≡ Some x) × StandAt (suc place) places some all
StandAt least _ _ all = ⊥
