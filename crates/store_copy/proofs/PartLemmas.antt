-- A part of a map grows by one entry of the whole.
use Rattle.std.proofs.Common.{◌≡◌, ◌⊎◌, true, false, cond, Option, Some, None, refl, sym, ap, ◌∙◌, inl, inr}
use Rattle.std.specs.declared.cmp.Ordering.{Ordering}
use Rattle.std.specs.declared.cmp.Ordering.TheVariants.{Less, Equal, Greater}
use Rattle.std.specs.Ordering.{eq_by_cmp, is_eq}
use Rattle.std.specs.Cmp.{IsTotalOrder, tied_itself}
use Rattle.std.specs.FinMap.{FinMap, get, insert, get-insert, get_tied, same_map, IsAntisymmetric}
use Rattle.store_copy.specs.ProofParts.{IsWithin}

equal : (o : Ordering) → is_eq o ≡ true → o ≡ Equal
equal Less e = let no : ⊥ = cc in absurd no
equal Equal e = refl
equal Greater e = let no : ⊥ = cc in absurd no

module _ {K X : Type 0} {R : K → K → Ordering} (o : IsTotalOrder R) (whole part : FinMap R X) where
  module _ (k : K) (v : X) (there : get whole k ≡ Some v) where
    at_tied : (q : K) → eq_by_cmp R q k ≡ true → get (insert part k v) q ≡ get whole q
    at_tied q tied = get-insert o part k v q ∙ ap (λ b. cond b (Some v) (get part q)) tied ∙ sym there ∙ get_tied o whole q k (equal (R q k) tied)

    -- each key has what the whole has, or what it had
    by_key : (q : K) → (get (insert part k v) q ≡ get whole q) ⊎ (get (insert part k v) q ≡ get part q)
    by_key q = elim (eq_by_cmp R q k) as (λ b. eq_by_cmp R q k ≡ b → (get (insert part k v) q ≡ get whole q) ⊎ (get (insert part k v) q ≡ get part q)) [
      | true ↦ λ tied. inl (at_tied q tied)
      | false ↦ λ apart. inr (get-insert o part k v q ∙ ap (λ b. cond b (Some v) (get part q)) apart)
    ] refl

    pub has_inserted : get (insert part k v) k ≡ get whole k
    has_inserted = at_tied k (ap is_eq (tied_itself o k))

    pub still_has : (q : K) → get part q ≡ get whole q → get (insert part k v) q ≡ get whole q
    still_has q had = elim (by_key q) [ inl now ↦ now | inr same ↦ same ∙ had ]

    pub still_within : IsWithin whole part → IsWithin whole (insert part k v)
    still_within within q = elim (by_key q) [
      | inl now ↦ inr now
      | inr same ↦ elim (within q) [ inl none ↦ inl (same ∙ none) | inr is ↦ inr (same ∙ is) ]
    ]

  pub within_none : IsWithin whole part → (q : K) → get whole q ≡ None → get part q ≡ get whole q
  within_none within q none = elim (within q) [ inl it ↦ it ∙ sym none | inr is ↦ is ]

  -- where it has what the whole has, it is the whole
  pub has_each : IsWithin whole part → ((q : K) (v : X) → get whole q ≡ Some v → get part q ≡ get whole q) → (q : K) → get part q ≡ get whole q
  has_each within each q = by (get whole q) refl
    where
      by : (found : Option X) → get whole q ≡ found → get part q ≡ get whole q
      by None none = within_none within q none
      by (Some v) is = each q v is

  pub is_whole : IsAntisymmetric R → IsWithin whole part → ((q : K) (v : X) → get whole q ≡ Some v → get part q ≡ get whole q) → part ≡ whole
  is_whole same within each = same_map o same part whole (has_each within each)
