-- The values of a map from names.
use Rattle.std.proofs.Common.{◌≡◌, ℕ, Bool, true, false, cond, T, List, [], ◌∷◌, map, Some, Less, Equal, Greater, Ordering, is_lt, refl, sym, ap, subst, subst₂, ◌∙◌, inl, inr}
use Rattle.std.specs.List.{AllByRecursion}
use Rattle.std.specs.Ordering.{eq_by_cmp, is_eq, ordering_reverse}
use Rattle.std.specs.Cmp.{tied_itself}
use Rattle.std.specs.Cmp.Lexicographic.{nat_list_cmp_total}
use Rattle.std.specs.FinMap.{FinMap, get, entries, entries_sorted, values, is_sorted, get-entries}
use Rattle.std.specs.FinMap.{find as found_in}
use Rattle.std.specs.FinMap.Entries.{below_all}
use Rattle.sqlite_trees.specs.Tree.{IsAscending}
use Rattle.sqlite_trees.proofs.ListLemmas.{all_both, ascending-map}
use Rattle.sqlite_rules.specs.Lists.{Has}
use Rattle.sqlite_rules.proofs.ListLemmas.{all_has, all_from}
use Rattle.sqlite_rules.proofs.ProbeLemmas.{has_mapped}
use Rattle.account_rules.specs.Devices.{name_cmp}
use Rattle.account_state.proofs.FiniteMaps.{T_first, T_second}

is_less : (o : Ordering) → T (is_lt o) → o ≡ Less
is_less Less h = refl
is_less Equal h = absurd h
is_less Greater h = absurd h

module _ {X : Type 0} where
  above : (name : List ℕ) (es : List (List ℕ × X)) → T (below_all name_cmp name es) → AllByRecursion (λ (later : List ℕ × X). name_cmp name later.0 ≡ Less) es
  above name [] h = tt
  above name (e ∷ es) h = (is_less _ (T_first _ _ h), above name es (T_second _ _ h))

  rising : (es : List (List ℕ × X)) → T (is_sorted name_cmp es) → IsAscending (λ (a b : List ℕ × X). name_cmp a.0 b.0 ≡ Less) es
  rising [] h = tt
  rising (e ∷ es) h = (above e.0 es (T_first _ _ h), rising es (T_second _ _ h))

  here : (es : List (List ℕ × X)) → IsAscending (λ (a b : List ℕ × X). name_cmp a.0 b.0 ≡ Less) es → (e : List ℕ × X) → Has es e → found_in name_cmp e.0 es ≡ Some e.1
  here [] up e h = absurd h
  here (f ∷ es) up e (inl same) =
      subst (λ (x : List ℕ × X). found_in name_cmp x.0 (f ∷ es) ≡ Some x.1) (sym same) (ap (λ r. cond (is_eq r) (Some f.1) (found_in name_cmp f.0 es)) (tied_itself nat_list_cmp_total f.0))
  here (f ∷ es) up e (inr later) =
      let below : name_cmp f.0 e.0 ≡ Less = all_has (λ (x : List ℕ × X). name_cmp f.0 x.0 ≡ Less) es e up.0 later in
      ap (λ r. cond (is_eq r) (Some f.1) (found_in name_cmp e.0 es)) (nat_list_cmp_total.antisymm e.0 f.0 ∙ ap ordering_reverse below) ∙ here es up.1 e later

  found_there : (es : List (List ℕ × X)) (name : List ℕ) (x : X) → found_in name_cmp name es ≡ Some x → Has (map (λ (e : List ℕ × X). e.1) es) x
  found_there [] name x is = absurd (let no = is in cc)
  found_there (e ∷ es) name x is = by_tie (eq_by_cmp name_cmp name e.0) is (found_there es name x)
    where
      by_tie : (b : Bool) → cond b (Some e.1) (found_in name_cmp name es) ≡ Some x → (found_in name_cmp name es ≡ Some x → Has (map (λ (e : List ℕ × X). e.1) es) x) → Has (map (λ (e : List ℕ × X). e.1) (e ∷ es)) x
      by_tie true is later = inl (let same : e.1 ≡ x = cc in sym same)
      by_tie false is later = inr (later is)

  module _ (m : FinMap name_cmp X) where
    -- what a name has is one of them
    pub value_has : (name : List ℕ) (x : X) → get m name ≡ Some x → Has (values m) x
    value_has name x is = found_there (entries m) name x (sym (get-entries m name) ∙ is)

    entry_is : (e : List ℕ × X) → Has (entries m) e → get m e.0 ≡ Some e.1
    entry_is e h = get-entries m e.0 ∙ here (entries m) (rising (entries m) (entries_sorted m)) e h

    -- what holds of what each name has holds of each of them
    pub values_keep : (P : X → Type 0) → ((name : List ℕ) (x : X) → get m name ≡ Some x → P x) → AllByRecursion P (values m)
    values_keep P each = all_from P (values m) (λ x h. let e = has_mapped (λ (e : List ℕ × X). e.1) (entries m) x h in subst P (sym e.2) (each e.0.0 e.0.1 (entry_is e.0 e.1)))

    -- where each is under its name, they stand by name
    pub values_rise : (key : X → List ℕ) → ((name : List ℕ) (x : X) → get m name ≡ Some x → key x ≡ name) → IsAscending (λ a b. name_cmp (key a) (key b) ≡ Less) (values m)
    values_rise key named =
        ascending-map (λ a b. name_cmp (key a) (key b) ≡ Less) (λ (e : List ℕ × X). e.1) (entries m)
        (by_key (entries m) (rising (entries m) (entries_sorted m)) (all_from (λ (e : List ℕ × X). key e.1 ≡ e.0) (entries m) (λ e h. named e.0 e.1 (entry_is e h))))
      where
        by_key : (es : List (List ℕ × X)) → IsAscending (λ (a b : List ℕ × X). name_cmp a.0 b.0 ≡ Less) es → AllByRecursion (λ (e : List ℕ × X). key e.1 ≡ e.0) es → IsAscending (λ (a b : List ℕ × X). name_cmp (key a.1) (key b.1) ≡ Less) es
        by_key [] up all = tt
        by_key (e ∷ es) up all = (
          all_both (λ (f : List ℕ × X). name_cmp e.0 f.0 ≡ Less) (λ (f : List ℕ × X). key f.1 ≡ f.0) _ (λ (f : List ℕ × X) h k. subst₂ (λ a b. name_cmp a b ≡ Less) (sym all.0) (sym k) h) es up.0 all.1,
          by_key es up.1 all.1,
        )
