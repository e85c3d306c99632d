-- A map that has what a function has, where that has something only at keys of a list.
use Rattle.std.proofs.Common.{◌≡◌, ℕ, zero, suc, ◌<◌, Bool, true, false, cond, ◌==◌, List, [], ◌∷◌, ◌++◌, map, Option, Some, None, refl, sym, ap, subst, ◌∙◌, inl, inr, ◌⊎◌, Ordering, arith}
use Rattle.std.specs.Ordering.{eq_by_cmp}
use Rattle.std.specs.Cmp.{IsTotalOrder}
use Rattle.std.specs.FinMap.{FinMap, get, insert, empty, get-empty, get-insert}
use Rattle.std.proofs.lemmas.Bool.Decides.{nat_tests}
use Rattle.std.proofs.lemmas.Bool.{cases_Bool, eqb-true}
use Rattle.sqlite_rules.specs.Lists.{Has}
use Rattle.sqlite_rules.proofs.ListLemmas.{has_left, has_right}
use Rattle.sqlite_rules.proofs.ProbeLemmas.{mapped_has}

module _ {K X : Type 0} (R : K → K → Ordering) (total : IsTotalOrder R) (exact : (a b : K) → eq_by_cmp R a b ≡ true → a ≡ b) (itself : (a : K) → eq_by_cmp R a a ≡ true) (f : K → Option X) where
  abbrev with_value : Option X → K → FinMap R X → FinMap R X
  with_value None k m = m
  with_value (Some v) k m = insert m k v

  abbrev pub tabulate : List K → FinMap R X
  tabulate [] = empty
  tabulate (k ∷ ks) = with_value (f k) k (tabulate ks)

  from : (ks : List K) (q : K) (v : X) → get (tabulate ks) q ≡ Some v → f q ≡ Some v
  from [] q v is = absurd (let no : None ≡ Some v = sym (get-empty R q) ∙ is in cc)
  from (k ∷ ks) q v is = by_value (f k) refl is (from ks q v)
    where
      by_tie : (w : X) (b : Bool) → f k ≡ Some w → eq_by_cmp R q k ≡ b → cond b (Some w) (get (tabulate ks) q) ≡ Some v → (get (tabulate ks) q ≡ Some v → f q ≡ Some v) → f q ≡ Some v
      by_tie w true some tie e rest = ap f (exact q k tie) ∙ some ∙ e
      by_tie w false some tie e rest = rest e

      by_value : (o : Option X) → f k ≡ o → get (with_value o k (tabulate ks)) q ≡ Some v → (get (tabulate ks) q ≡ Some v → f q ≡ Some v) → f q ≡ Some v
      by_value None none e rest = rest e
      by_value (Some w) some e rest = by_tie w (eq_by_cmp R q k) some refl (sym (get-insert total (tabulate ks) k w q) ∙ e) rest

  there : (ks : List K) (q : K) (v : X) → Has ks q → f q ≡ Some v → get (tabulate ks) q ≡ Some v
  there [] q v h some = absurd h
  there (k ∷ ks) q v h some = by_value (f k) refl h (there ks q v)
    where
      by_tie : (w : X) (b : Bool) → f k ≡ Some w → eq_by_cmp R q k ≡ b → Has (k ∷ ks) q → (Has ks q → f q ≡ Some v → get (tabulate ks) q ≡ Some v) → cond b (Some w) (get (tabulate ks) q) ≡ Some v
      by_tie w true is tie h rest = sym is ∙ sym (ap f (exact q k tie)) ∙ some
      by_tie w false is tie (inl same) rest = absurd (let no : false ≡ true = sym tie ∙ ap (λ x. eq_by_cmp R q x) (sym same) ∙ itself q in cc)
      by_tie w false is tie (inr h) rest = rest h some

      by_value : (o : Option X) → f k ≡ o → Has (k ∷ ks) q → (Has ks q → f q ≡ Some v → get (tabulate ks) q ≡ Some v) → get (with_value o k (tabulate ks)) q ≡ Some v
      by_value None none (inl same) rest = absurd (let no : None ≡ Some v = sym none ∙ ap f (sym same) ∙ some in cc)
      by_value None none (inr h) rest = rest h some
      by_value (Some w) is h rest = get-insert total (tabulate ks) k w q ∙ by_tie w (eq_by_cmp R q k) is refl h rest

  pub tabulated : (ks : List K) → ((q : K) (v : X) → f q ≡ Some v → Has ks q) → (q : K) → get (tabulate ks) q ≡ f q
  tabulated ks all q = by_value (f q) (get (tabulate ks) q) refl refl
    where
      by_value : (o p : Option X) → f q ≡ o → get (tabulate ks) q ≡ p → p ≡ o
      by_value (Some v) p is are = sym are ∙ there ks q v (all q v is) is
      by_value None None is are = refl
      by_value None (Some w) is are = sym (from ks q w are) ∙ is

-- ---- the numbers below a bound, and pairs of them

abbrev pub below : ℕ → List ℕ
below zero = []
below (suc n) = n ∷ below n

nat_either : (k n : ℕ) → k < suc n → (k ≡ n) ⊎ (k < n)
nat_either k n h = elim (cases_Bool (k == n)) [ inl is ↦ inl (eqb-true k n is) | inr isnt ↦ inr (grind (arith, nat_tests)) ]

pub is_below : (n k : ℕ) → k < n → Has (below n) k
is_below zero k h = absurd (omega (arith, h))
is_below (suc n) k h = elim (nat_either k n h) [ inl same ↦ inl same | inr less ↦ inr (is_below n k less) ]

abbrev pub pairs : (m n : ℕ) → List (ℕ × ℕ)
pairs zero n = []
pairs (suc m) n = map (λ (k : ℕ). (m, k)) (below n) ++ pairs m n

abbrev beside : (m k : ℕ) → ℕ × ℕ
beside m k = (m, k)

pub are_below : (m n j k : ℕ) → j < m → k < n → Has (pairs m n) (j, k)
are_below zero n j k h l = absurd (omega (arith, h))
are_below (suc m) n j k h l = elim (nat_either j m h) [
  | inl same ↦ has_left (map (beside m) (below n)) (pairs m n) (j, k) (subst (λ (i : ℕ). Has {X = ℕ × ℕ} (map (beside m) (below n)) (i, k)) (sym same) (mapped_has (beside m) (below n) k (is_below n k l)))
  | inr less ↦ has_right (map (beside m) (below n)) (pairs m n) (j, k) (are_below m n j k less l)
]
