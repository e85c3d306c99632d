-- A map in which each value is changed, by its key; and so one from numbers.
use Rattle.std.proofs.Common.{arith, ◌≡◌, ℕ, Bool, true, false, cond, ◌&&◌, T, List, [], ◌∷◌, map, Some, option_map, refl, sym, ap, subst, ◌∙◌}
use Rattle.std.specs.declared.cmp.Ordering.{Ordering}
use Rattle.std.specs.Ordering.{nat_cmp, eq_by_cmp, is_lt}
use Rattle.std.specs.FinMap.{FinMap, get, entries, entries_sorted, values, find, from_sorted, is_sorted, entries-from_sorted, get-from_sorted, get-entries}
use Rattle.std.specs.FinMap.Entries.{below_all}
use Rattle.std.proofs.lemmas.Grind.{common_steps}

-- keys that are compared as equal are
abbrev pub AreExact : {K : Type 0} → (K → K → Ordering) → Type 0
AreExact {K} R = (k q : K) → eq_by_cmp R k q ≡ true → q ≡ k

module _ {K : Type 0} (R : K → K → Ordering) (same_key : AreExact R) {X Y : Type 0} (change : K → X → Y) where
  abbrev keyed_entries : List (K × X) → List (K × Y)
  keyed_entries = map (λ (e : K × X). (e.0, change e.0 e.1))

  below_keyed : (k : K) (es : List (K × X)) → below_all R k (keyed_entries es) ≡ below_all R k es
  below_keyed k [] = refl
  below_keyed k (e ∷ es) = ap (λ b. is_lt (R k e.0) && b) (below_keyed k es)

  sorted_keyed : (es : List (K × X)) → is_sorted R (keyed_entries es) ≡ is_sorted R es
  sorted_keyed [] = refl
  sorted_keyed (e ∷ es) = λ i. below_keyed e.0 es i && sorted_keyed es i

  find_keyed : (k : K) (es : List (K × X)) → find R k (keyed_entries es) ≡ option_map (change k) (find R k es)
  find_keyed k [] = refl
  find_keyed k (e ∷ es) = by (find_keyed k es) (eq_by_cmp R k e.0) refl
    where
      by : find R k (keyed_entries es) ≡ option_map (change k) (find R k es) → (b : Bool) → eq_by_cmp R k e.0 ≡ b → cond b (Some (change e.0 e.1)) (find R k (keyed_entries es)) ≡ option_map (change k) (cond b (Some e.1) (find R k es))
      by rest true same = ap (λ (n : K). Some (change n e.1)) (same_key k e.0 same)
      by rest false other = rest

  second_keyed : (es : List (K × X)) → map (λ (e : K × Y). e.1) (keyed_entries es) ≡ map (λ (e : K × X). change e.0 e.1) es
  second_keyed [] = refl
  second_keyed (e ∷ es) = ap (λ rest. change e.0 e.1 ∷ rest) (second_keyed es)

  pub with_keys : FinMap R X → FinMap R Y
  with_keys m = from_sorted (keyed_entries (entries m))

  still_sorted : (m : FinMap R X) → T (is_sorted R (keyed_entries (entries m)))
  still_sorted m = subst T (sym (sorted_keyed (entries m))) (entries_sorted m)

  pub get-with_keys : (m : FinMap R X) (k : K) → get (with_keys m) k ≡ option_map (change k) (get m k)
  unfolding with_keys
  get-with_keys m k =
      get-from_sorted R (keyed_entries (entries m)) k (still_sorted m)
      ∙ find_keyed k (entries m)
      ∙ ap (option_map (change k)) (sym (get-entries m k))

  pub values-with_keys : (m : FinMap R X) → values (with_keys m) ≡ map (λ (e : K × X). change e.0 e.1) (entries m)
  unfolding with_keys
  values-with_keys m =
      ap (map (λ (e : K × Y). e.1)) (entries-from_sorted R (keyed_entries (entries m)) (still_sorted m))
      ∙ second_keyed (entries m)

-- ---- from numbers

same_number : AreExact nat_cmp
same_number k q same = grind (arith, common_steps)

module _ {X Y : Type 0} (change : ℕ → X → Y) where
  pub with_keyed : FinMap nat_cmp X → FinMap nat_cmp Y
  with_keyed m = with_keys nat_cmp same_number change m

  pub get-with_keyed : (m : FinMap nat_cmp X) (k : ℕ) → get (with_keyed m) k ≡ option_map (change k) (get m k)
  unfolding with_keyed
  get-with_keyed m k = get-with_keys nat_cmp same_number change m k

  pub values-with_keyed : (m : FinMap nat_cmp X) → values (with_keyed m) ≡ map (λ (e : ℕ × X). change e.0 e.1) (entries m)
  unfolding with_keyed
  values-with_keyed m = values-with_keys nat_cmp same_number change m
