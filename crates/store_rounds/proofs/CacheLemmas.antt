-- What is kept of accounts, where something is put of one.
use Rattle.std.proofs.Common.{◌≡◌, ◌≢◌, ℕ, zero, suc, ◌-◌, Bool, true, false, cond, List, [], ◌∷◌, take, Option, Some, None, IfSome, Result, Ok, Err, OnOk, OnErr, IsOk, IsSome, refl, sym, ap, subst, ◌∙◌, bytes_eq}
use Rattle.std.proofs.lemmas.Slice.Eq.{bytes_eq-Decides}
use Rattle.std.specs.Map.{lookup, lookup_entry, remove_entry}
use Rattle.std.specs.Option.{option_map_or}
use Rattle.lru.specs.LruCache.{LruCache, lru_cache, put_entries}
use Rattle.lru.proofs.CallerLemmas.{Contains-lookup_entry}
use Rattle.store_rounds.specs.Kept.{is_of, kept_of, SetsKnown}
use Rattle.store_rounds.specs.declared.cache.Known.{Known}
use Rattle.store_rounds.specs.declared.cache.Key.{Key}

module _ {K V : Type 0} (mine other : K → Bool) (apart : (k : K) → mine k ≡ true → other k ≡ false) where
  -- without one of mine the others are found as before
  pub found_without : (es : List (K × V)) → lookup other (remove_entry mine es) ≡ lookup other es
  found_without [] = refl
  found_without (e ∷ es) = (elim (mine e.0) as (λ b. mine e.0 ≡ b → lookup other (cond b es (e ∷ remove_entry mine es)) ≡ lookup other (e ∷ es)) [
    | true ↦ λ is. sym (ap (λ b. cond b (Some e.1) (lookup other es)) (apart e.0 is))
    | false ↦ λ is. ap (λ rest. cond (other e.0) (Some e.1) rest) (found_without es)
  ]) refl

-- what is found among the first is found among all
pub found_in_front : {K V : Type 0} (test : K → Bool) (n : ℕ) (es : List (K × V)) (v : V) → lookup test (take n es) ≡ Some v → lookup test es ≡ Some v
found_in_front test zero es v h = absurd (let no = h in cc)
found_in_front test (suc n) [] v h = h
found_in_front test (suc n) (e ∷ es) v h = (elim (test e.0) as (λ b. cond b (Some e.1) (lookup test (take n es)) ≡ Some v → cond b (Some e.1) (lookup test es) ≡ Some v) [
  | true ↦ λ h. h
  | false ↦ λ h. found_in_front test n es v h
]) h

unlike : (other name : List ℕ) → other ≢ name → bytes_eq other name ≡ false
unlike other name apart = (elim (bytes_eq other name) as (λ b. bytes_eq other name ≡ b → b ≡ false) [
  | true ↦ λ e. absurd (apart ((bytes_eq-Decides other name).0 e))
  | false ↦ λ e. refl
]) refl

module _ (c : LruCache Key Known) (name : List ℕ) (it : Known) where
  abbrev key : Key
  key = record { name = name }

  abbrev same : Key → Key → Bool
  same x y = bytes_eq x.name y.name

  abbrev put_by : Option (Key × Known) → List (Key × Known)
  put_by o = option_map_or (λ e. (e.0, it) ∷ remove_entry (same key) c.entries) o ((key, it) ∷ take (c.cap - 1) c.entries)

  own_by : (o : Option (Key × Known)) → lookup_entry (same key) c.entries ≡ o → kept_of (put_by o) name ≡ Some it
  own_by None h = ap (λ b. cond b (Some it) (kept_of (take (c.cap - 1) c.entries) name)) ((bytes_eq-Decides name name).1 refl)
  own_by (Some f) h = ap (λ b. cond b (Some it) (kept_of (remove_entry (same key) c.entries) name)) (Contains-lookup_entry (same key) c.entries f h).1

  module _ (other : List ℕ) (apart : other ≢ name) where
    apart_keys : (k : Key) → same key k ≡ true → is_of other k ≡ false
    apart_keys k is = unlike other k.name (λ e. apart (e ∙ sym ((bytes_eq-Decides name k.name).0 is)))

    other_by : (o : Option (Key × Known)) → lookup_entry (same key) c.entries ≡ o → (is : Known) → kept_of (put_by o) other ≡ Some is → kept_of c.entries other ≡ Some is
    other_by None h is there = found_in_front (is_of other) (c.cap - 1) c.entries is (sym (ap (λ b. cond b (Some it) (kept_of (take (c.cap - 1) c.entries) other)) (unlike other name apart)) ∙ there)
    other_by (Some f) h is there =
        let here : same key f.0 ≡ true = (Contains-lookup_entry (same key) c.entries f h).1 in
        sym (found_without (same key) (is_of other) apart_keys c.entries) ∙ sym (ap (λ b. cond b (Some it) (kept_of (remove_entry (same key) c.entries) other)) (apart_keys f.0 here)) ∙ there

  told : {X : Type 0} (P : X → Type 0) (o : Option X) → ((x : X) → o ≡ Some x → P x) → IfSome o P
  told P None each = tt
  told P (Some x) each = each x refl

  pub put_sets : SetsKnown name it c.entries (put_entries same c key it)
  put_sets =
      let o : Option (Key × Known) = lookup_entry (same key) c.entries in
      record {
        own = subst (λ (found : Option Known). IfSome found (λ is. is ≡ it)) (sym (own_by o refl)) refl;
        others = λ other apart. told (λ is. kept_of c.entries other ≡ Some is) (kept_of (put_entries same c key it) other) (other_by other apart o refl);
      }

  none_then : (o : Option Known) → (IsSome o → ⊥) → IfSome o (λ is. is ≡ it)
  none_then None never = tt
  none_then (Some is) never = absurd (never refl)

  -- where it could not be put nothing was there
  not_put : (IsSome (kept_of c.entries name) → ⊥) → SetsKnown name it c.entries c.entries
  not_put never = record {
    own = none_then (kept_of c.entries name) never;
    others = λ other apart. told (λ is. kept_of c.entries other ≡ Some is) (kept_of c.entries other) (λ is there. there);
  }

  pub put_result : {E : Type 0} (r : Result (Option Known) E) (after : LruCache Key Known) → OnOk r (after ≡ lru_cache (put_entries same c key it) c.cap) → OnErr r (after ≡ c) → (IsSome (kept_of c.entries name) → IsOk r) → SetsKnown name it c.entries after.entries
  put_result (Ok was) after ok err succeeds = subst (λ (l : LruCache Key Known). SetsKnown name it c.entries l.entries) (sym ok) put_sets
  put_result (Err e) after ok err succeeds = subst (λ (l : LruCache Key Known). SetsKnown name it c.entries l.entries) (sym err) (not_put (λ some. let fails = succeeds some in absurd (let it = fails in cc)))
