-- Lists that are told line by line, where each item is changed.
use Rattle.std.proofs.Common.{◌≡◌, ℕ, List, [], ◌∷◌, ◌++◌, map, length, refl, ap, suc}
use Rattle.std.specs.Fmt.{decimal}
use Rattle.std.specs.List.{flat_map}
use Rattle.std.specs.Prelude.{codes}
use Rattle.account_questions.specs.Lists.{list_text}

module _ {X Y : Type 0} (change : X → Y) where
  pub length_changed : (xs : List X) → length (map change xs) ≡ length xs
  length_changed [] = refl
  length_changed (x ∷ xs) = ap (λ (n : ℕ). suc n) (length_changed xs)

  -- of each item as much is told as of the other
  module _ (text : Y → List ℕ) (other : X → List ℕ) (same : (x : X) → text (change x) ≡ other x) where
    pub told_changed : (xs : List X) → flat_map text (map change xs) ≡ flat_map other xs
    told_changed [] = refl
    told_changed (x ∷ xs) = λ i. same x i ++ told_changed xs i

  pub lines_changed : (text : Y → List ℕ) (other : X → List ℕ) → ((x : X) → text (change x) ≡ other x) → (word : List ℕ) (xs : List X) → list_text word text (map change xs) ≡ list_text word other xs
  lines_changed text other same word xs =
      let lines = told_changed (λ (y : Y). 10 ∷ text y) (λ (x : X). 10 ∷ other x) (λ x i. 10 ∷ same x i) xs in
      λ i. word ++ codes " " ++ decimal (length_changed xs i) ++ lines i
