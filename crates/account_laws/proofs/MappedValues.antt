-- A map from numbers in which each value is changed.
use Rattle.std.proofs.Common.{◌≡◌, ℕ, Bool, true, false, cond, ◌||◌, List, [], ◌∷◌, map, filter, Option, Some, None, option_map, sum, refl, sym, ap, ◌∙◌}
use Rattle.std.proofs.lemmas.List.Sums.{sum-map}
use Rattle.std.specs.List.{list_any, sum_by}
use Rattle.std.specs.Ordering.{nat_cmp, eq_by_cmp}
use Rattle.std.specs.Cmp.{nat_cmp_total}
use Rattle.std.specs.FinMap.{FinMap, get, insert, entries, values, get-insert, nat_cmp-IsAntisymmetric, same_map}
use Rattle.account_laws.proofs.KeyedValues.{get-with_keyed, values-with_keyed, with_keyed}

-- ---- lists

module _ {X Y : Type 0} (change : X → Y) where
  pub any_changed : (test : Y → Bool) (xs : List X) → list_any test (map change xs) ≡ list_any (λ x. test (change x)) xs
  any_changed test [] = refl
  any_changed test (x ∷ xs) = ap (λ rest. test (change x) || rest) (any_changed test xs)

  pub filter_changed : (test : Y → Bool) (xs : List X) → filter test (map change xs) ≡ map change (filter (λ x. test (change x)) xs)
  filter_changed test [] = refl
  filter_changed test (x ∷ xs) =
      let rest = filter_changed test xs in
      elim (test (change x)) as (λ b. cond b (change x ∷ filter test (map change xs)) (filter test (map change xs)) ≡ map change (cond b (x ∷ filter (λ x. test (change x)) xs) (filter (λ x. test (change x)) xs)))
      [ true ↦ ap (λ rest. change x ∷ rest) rest | false ↦ rest ]

-- ---- maps

module _ {X Y : Type 0} (change : X → Y) where
  pub with_each : FinMap nat_cmp X → FinMap nat_cmp Y
  with_each m = with_keyed (λ _. change) m

  pub get-with_each : (m : FinMap nat_cmp X) (k : ℕ) → get (with_each m) k ≡ option_map change (get m k)
  unfolding with_each
  get-with_each m k = get-with_keyed (λ _. change) m k

  second_changed : (es : List (ℕ × X)) → map (λ (e : ℕ × X). change e.1) es ≡ map change (map (λ (e : ℕ × X). e.1) es)
  second_changed [] = refl
  second_changed (e ∷ es) = ap (λ rest. change e.1 ∷ rest) (second_changed es)

  pub values-with_each : (m : FinMap nat_cmp X) → values (with_each m) ≡ map change (values m)
  unfolding with_each
  values-with_each m = values-with_keyed (λ _. change) m ∙ second_changed (entries m)

  change_chosen : (b : Bool) (v : X) (found : Option X) → option_map change (cond b (Some v) found) ≡ cond b (Some (change v)) (option_map change found)
  change_chosen true v found = refl
  change_chosen false v found = refl

  pub insert-with_each : (m : FinMap nat_cmp X) (k : ℕ) (v : X) → with_each (insert m k v) ≡ insert (with_each m) k (change v)
  insert-with_each m k v =
      same_map nat_cmp_total nat_cmp-IsAntisymmetric _ _ (λ q.
      get-with_each (insert m k v) q ∙ ap (option_map change) (get-insert nat_cmp_total m k v q)
      ∙ change_chosen (eq_by_cmp nat_cmp q k) v (get m q)
      ∙ sym (get-insert nat_cmp_total (with_each m) k (change v) q ∙ ap (cond (eq_by_cmp nat_cmp q k) (Some (change v))) (get-with_each m q)))

-- a change that is made once is made
module _ {X : Type 0} (change : X → X) (once : (x : X) → change (change x) ≡ change x) where
  once_found : (found : Option X) → option_map change (option_map change found) ≡ option_map change found
  once_found None = refl
  once_found (Some x) = ap Some (once x)

  pub with_each-once : (m : FinMap nat_cmp X) → with_each change (with_each change m) ≡ with_each change m
  with_each-once m =
      same_map nat_cmp_total nat_cmp-IsAntisymmetric _ _ (λ q.
      get-with_each change (with_each change m) q ∙ ap (option_map change) (get-with_each change m q) ∙ once_found (get m q) ∙ sym (get-with_each change m q))

-- two maps that are alike at each number, but for changes
pub same_with_each : {X Z Y : Type 0} (change : X → Y) (other : Z → Y) (m : FinMap nat_cmp X) (n : FinMap nat_cmp Z) → ((k : ℕ) → option_map change (get m k) ≡ option_map other (get n k)) → with_each change m ≡ with_each other n
same_with_each change other m n same = same_map nat_cmp_total nat_cmp-IsAntisymmetric _ _ (λ q. get-with_each change m q ∙ same q ∙ sym (get-with_each other n q))

-- so what is counted of their values is the same
pub sum_with_each : {X Z : Type 0} (f : X → ℕ) (g : Z → ℕ) (m : FinMap nat_cmp X) (n : FinMap nat_cmp Z) → ((k : ℕ) → option_map f (get m k) ≡ option_map g (get n k)) → sum_by f (values m) ≡ sum_by g (values n)
sum_with_each f g m n same =
    sym (sum-map f (values m))
    ∙ ap sum (sym (values-with_each f m) ∙ ap values (same_with_each f g m n same) ∙ values-with_each g n)
    ∙ sum-map g (values n)

-- two maps that are alike at each number, but for changes, have values that are alike in their order
pub same_in_order : {X Z Y : Type 0} (change : X → Y) (other : ℕ → Z → Y) (m : FinMap nat_cmp X) (n : FinMap nat_cmp Z) → ((k : ℕ) → option_map change (get m k) ≡ option_map (other k) (get n k))
    → map change (values m) ≡ map (λ (e : ℕ × Z). other e.0 e.1) (entries n)
same_in_order change other m n same =
    sym (values-with_each change m)
    ∙ ap values (same_map nat_cmp_total nat_cmp-IsAntisymmetric (with_each change m) (with_keyed other n) (λ q. get-with_each change m q ∙ same q ∙ sym (get-with_keyed other n q)))
    ∙ values-with_keyed other n
