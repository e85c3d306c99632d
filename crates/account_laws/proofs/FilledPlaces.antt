-- What is found at numbers that count up, where there is none behind as many as are found.
use Rattle.std.proofs.Common.{◌≡◌, ℕ, zero, suc, ◌+◌, ◌<◌, ◌≤◌, List, [], ◌∷◌, ◌++◌, map, length, Option, Some, None, option_map, refl, sym, ap, subst, ◌∙◌, arith}
use Rattle.std.specs.Option.{option_to_list}
use Rattle.account_laws.proofs.PlacedDocuments.{counted, found, none_found}

-- what stands at a place of a list, from 0
abbrev pub nth : {X : Type 0} → List X → ℕ → Option X
nth [] i = None
nth (x ∷ xs) zero = Some x
nth (x ∷ xs) (suc i) = nth xs i

pub nth_changed : {X Y : Type 0} (change : X → Y) (xs : List X) (i : ℕ) → option_map change (nth xs i) ≡ nth (map change xs) i
nth_changed change [] i = refl
nth_changed change (x ∷ xs) zero = refl
nth_changed change (x ∷ xs) (suc i) = nth_changed change xs i

module _ {X : Type 0} (at : ℕ → Option X) where
  -- no more are found than numbers
  pub at_most_all : (from many : ℕ) → length (found at (counted from many)) ≤ many
  at_most_all from zero = omega arith
  at_most_all from (suc many) =
      let rest = at_most_all (from + 1) many in
      elim (at from) as (λ (o : Option X). length (option_to_list o ++ found at (counted (from + 1) many)) ≤ suc many) [ None ↦ omega (arith, rest) | Some x ↦ omega (arith, rest) ]

  -- nor more than stand before the first from which there is none
  at_most : (from many n : ℕ) → ((k : ℕ) → from + n ≤ k → at k ≡ None) → length (found at (counted from many)) ≤ n
  at_most from zero n none = omega arith
  at_most from (suc many) zero none = subst (λ (xs : List X). length xs ≤ 0) (sym (none_found at from (suc many) (λ k above. none k (omega arith)))) (omega arith)
  at_most from (suc many) (suc n) none =
      let rest = at_most (from + 1) many n (λ k above. none k (omega arith)) in
      elim (at from) as (λ (o : Option X). length (option_to_list o ++ found at (counted (from + 1) many)) ≤ suc n) [ None ↦ omega (arith, rest) | Some x ↦ omega (arith, rest) ]

  -- so where as many are found, each stands at its number
  first_is : (from many n : ℕ) → ((k : ℕ) → from + suc n ≤ k → at k ≡ None) → length (found at (counted from (suc many))) ≡ suc n → (x : X) × (at from ≡ Some x)
  first_is from many n none so_many =
      let few = at_most (from + 1) many n (λ k above. none k (omega arith)) in
      (elim (at from) as (λ (o : Option X). at from ≡ o → length (option_to_list o ++ found at (counted (from + 1) many)) ≡ suc n → (x : X) × (at from ≡ Some x)) [
        | None ↦ λ here long. let all : length (found at (counted (from + 1) many)) ≡ suc n = long in absurd (omega (arith, few, all))
        | Some x ↦ λ here long. (x, here)
      ]) refl so_many

  pub filled : (from many n : ℕ) → ((k : ℕ) → from + n ≤ k → at k ≡ None) → length (found at (counted from many)) ≡ n → (i : ℕ) → i < many → at (from + i) ≡ nth (found at (counted from many)) i
  filled from zero n none so_many i less = absurd (omega arith)
  filled from (suc many) zero none so_many i less = none (from + i) (omega arith) ∙ sym (ap (λ (xs : List X). nth xs i) (none_found at from (suc many) (λ k above. none k (omega arith))))
  filled from (suc many) (suc n) none so_many zero less =
      let first = first_is from many n none so_many in
      let here : from + 0 ≡ from = omega arith in
      ap at here ∙ first.1 ∙ sym (ap (λ (o : Option X). nth (option_to_list o ++ found at (counted (from + 1) many)) 0) first.1)
  filled from (suc many) (suc n) none so_many (suc i) less =
      let first = first_is from many n none so_many in
      let next : from + suc i ≡ from + 1 + i = omega arith in
      let long : suc (length (found at (counted (from + 1) many))) ≡ suc n = subst (λ (o : Option X). length (option_to_list o ++ found at (counted (from + 1) many)) ≡ suc n) first.1 so_many in
      let rest : length (found at (counted (from + 1) many)) ≡ n = omega (arith, long) in
      ap at next ∙ filled (from + 1) many n (λ k above. none k (omega arith)) rest i (omega arith)
      ∙ sym (ap (λ (o : Option X). nth (option_to_list o ++ found at (counted (from + 1) many)) (suc i)) first.1)
