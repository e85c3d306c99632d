-- Look-ups in the map of a list of things that have keys.
use Rattle.std.proofs.Common.{◌≡◌, Bool, true, false, cond, List, [], ◌∷◌, ◌++◌, map, Option, Some, None, option_map, refl, sym, ap, ◌∙◌}
use Rattle.std.specs.List.{find as first}
use Rattle.std.specs.declared.cmp.Ordering.{Ordering}
use Rattle.std.specs.Ordering.{eq_by_cmp}
use Rattle.std.specs.Cmp.{IsTotalOrder}
use Rattle.std.specs.FinMap.{from_entries, get, insert, find, IsAntisymmetric, get-from_entries, from_entries_push}
use Rattle.std.proofs.lemmas.List.{map-append}

pub same_option : {A : Type 0} (o : Option A) → option_map (λ x. x) o ≡ o
same_option None = refl
same_option (Some x) = refl

module _ {K X V : Type 0} {R : K → K → Ordering} (total : IsTotalOrder R) (key : X → K) (value : X → V) (test : K → X → Bool) (tie : (k : K) (x : X) → eq_by_cmp R k (key x) ≡ test k x) where
  find_keyed : (xs : List X) (k : K) → find R k (map (λ x. (key x, value x)) xs) ≡ option_map value (first (test k) xs)
  find_keyed [] k = refl
  find_keyed (x ∷ xs) k =
      let rest = find R k (map (λ (x : X). (key x, value x)) xs) in
      ap (λ b. cond b (Some (value x)) rest) (tie k x)
      ∙ (elim (test k x) as (λ b. cond b (Some (value x)) rest ≡ option_map value (cond b (Some x) (first (test k) xs))) [ true ↦ refl | false ↦ find_keyed xs k ])

  pub get_keyed : (xs : List X) (k : K) → get (from_entries {R = R} (map (λ x. (key x, value x)) xs)) k ≡ option_map value (first (test k) xs)
  get_keyed xs k = get-from_entries total _ k ∙ find_keyed xs k

  -- one more with a key that is new
  pub push_keyed : IsAntisymmetric R → (xs : List X) (x : X) → get (from_entries {R = R} (map (λ x. (key x, value x)) xs)) (key x) ≡ None →
      from_entries {R = R} (map (λ x. (key x, value x)) (xs ++ x ∷ [])) ≡ insert (from_entries (map (λ x. (key x, value x)) xs)) (key x) (value x)
  push_keyed exact xs x none =
      ap (from_entries {R = R}) (map-append (λ (x : X). (key x, value x)) xs (x ∷ []))
      ∙ from_entries_push total exact _ (key x) (value x) (sym (get-from_entries total _ (key x)) ∙ none)
