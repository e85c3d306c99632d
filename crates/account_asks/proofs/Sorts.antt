-- Keys of the names of attributes with their places, as they are made and as they are sorted.
use Rattle.std.proofs.Common.{◌≡◌, ℕ, zero, suc, ◌+◌, ◌-◌, ◌<◌, ◌≤◌, Bool, true, false, true≢false, below_more, cond, List, [], ◌∷◌, ◌++◌, Some, length, map, take, get_or, refl, sym, ap, subst, ◌∙◌, arith, bytes_eq}
use Rattle.std.specs.Prelude.{is_some}
use Rattle.std.specs.List.{find, All}
use Rattle.std.specs.List.Sorted.{IsPermutation, IsSorted}
use Rattle.std.specs.declared.cmp.Ordering.{Ordering}
use Rattle.std.specs.declared.cmp.Ordering.TheVariants.{Less, Equal, Greater}
use Rattle.std.specs.Ordering.{nat_cmp, is_lt, ordering_then}
use Rattle.std.specs.Cmp.{IsTotalOrder, nat_cmp_is}
use Rattle.std.specs.Cmp.Lexicographic.{same_text}
use Rattle.std.proofs.lemmas.Bool.Decides.{nat_tests}
use Rattle.std.proofs.lemmas.Cmp.{nat_cmp_total, on_total, then_total, nat_list_eq_equiv}
use Rattle.std.proofs.lemmas.List.{get_or_default, length-append}
use Rattle.std.proofs.Math.ListN.{get_or-append}
use Rattle.std.proofs.Math.Seq.{get_or-append_seam}
use Rattle.std.proofs.lemmas.List.Sorted.{All-permutation, Contains-permutation, ranks_by, sorted_far}
use Rattle.ipp_coding.specs.declared.message.Attribute.{Attribute}
use Rattle.ipp_coding.specs.Plain.{plain_attribute}
use Rattle.account_asks.specs.declared.firsts.Key.{Key}
use Rattle.account_asks.specs.Requests.{is_named}
use Rattle.account_asks.specs.ProofNames.{is_repeated, IsKeyOf, AreKeys}
use Rattle.account_asks.proofs.Keys.{key_cmp, key_order, is_same, tied_from_same, same_from_tied, tied_between, same_of_name, name_told}

-- a key with the place of its attribute
abbrev pub Entry : Type 0
Entry = Key × ℕ

abbrev pub entry_cmp : Entry → Entry → Ordering
entry_cmp a b = ordering_then (key_cmp a.0 b.0) (nat_cmp a.1 b.1)

entry_order : IsTotalOrder entry_cmp
entry_order = then_total (on_total (λ (e : Entry). e.0) key_order) (on_total (λ (e : Entry). e.1) nat_cmp_total)

abbrev name_at : List Attribute → ℕ → Attribute → List ℕ
name_at xs q x = (get_or xs q x).name.now

-- whether the name of the attribute at a place came before
abbrev pub has_come : List Attribute → ℕ → Attribute → Bool
has_come xs q x = is_repeated (map plain_attribute (take q xs)) (plain_attribute (get_or xs q x))

-- ---- keys as they are made

-- those of the attributes up to a place
pub record KeysUpTo (keys : List Entry) (xs : List Attribute) (place : ℕ) : Type 0 where
  pub all : length keys ≡ place
  pub places : (k : ℕ) → k < place → (e : Entry) → (get_or keys k e).1 ≡ k
  pub each : (k : ℕ) → k < place → (e : Entry) (x : Attribute) → IsKeyOf (name_at xs k x) (get_or keys k e).0

pub no_keys : (keys : List Entry) (xs : List Attribute) → keys ≡ [] → KeysUpTo keys xs 0
no_keys keys xs none = record {
  all = ap length none;
  places = λ k below. absurd (omega (arith, below));
  each = λ k below. absurd (omega (arith, below));
}

pub one_more_key : (keys : List Entry) (xs : List Attribute) (place : ℕ) (x : Attribute) (key : Key) → place < length xs → x ≡ get_or xs place x → IsKeyOf x.name.now key → KeysUpTo keys xs place → KeysUpTo (keys ++ (key, place) ∷ []) xs (place + 1)
one_more_key keys xs place x key within at of keys_up =
    let last : (e : Entry) → get_or (keys ++ (key, place) ∷ []) place e ≡ (key, place) = λ e.
    ap (λ (k : ℕ). get_or (keys ++ (key, place) ∷ []) k e) (sym keys_up.all) ∙ get_or-append_seam keys (key, place) [] e in
    let before : (k : ℕ) (e : Entry) → k < place → get_or (keys ++ (key, place) ∷ []) k e ≡ get_or keys k e = λ k e less. get_or-append keys ((key, place) ∷ []) e k (omega (arith, less, keys_up.all)) in
    record {
      all = length-append keys ((key, place) ∷ []) ∙ ap (λ (n : ℕ). n + 1) keys_up.all;
      places = below_more (λ k. (e : Entry) → (get_or (keys ++ (key, place) ∷ []) k e).1 ≡ k) place
          (λ k less e. ap (λ (f : Entry). f.1) (before k e less) ∙ keys_up.places k less e)
          (λ e. ap (λ (f : Entry). f.1) (last e));
      each = below_more (λ k. (e : Entry) (y : Attribute) → IsKeyOf (name_at xs k y) (get_or (keys ++ (key, place) ∷ []) k e).0) place
          (λ k less e y. subst (λ (f : Entry). IsKeyOf (name_at xs k y) f.0) (sym (before k e less)) (keys_up.each k less e y))
          (λ e y. subst (λ (f : Entry). IsKeyOf (name_at xs place y) f.0) (sym (last e)) (subst (λ (z : Attribute). IsKeyOf z.name.now key) (at ∙ get_or_default xs place x y within) of));
    }

pub all_keys : (keys : List Entry) (xs : List Attribute) (place : ℕ) → place ≡ length xs → KeysUpTo keys xs place → AreKeys keys xs
all_keys keys xs place end keys_up = record {
  all = keys_up.all ∙ end;
  places = λ k e below. keys_up.places k (omega (arith, below, end)) e;
  each = λ k e x below. keys_up.each k (omega (arith, below, end)) e x;
}

-- ---- sorted keys

-- a key of the name at its place
abbrev IsPlaced : List Attribute → Entry → Type 0
IsPlaced xs e = (e.1 < length xs) × ((x : Attribute) → IsKeyOf (name_at xs e.1 x) e.0)

-- the keys of the names of attributes with their places, sorted
pub record Sorted (keys : List Entry) (xs : List Attribute) : Type 0 where
  pub each : All (IsPlaced xs) keys
  pub found : (q : ℕ) (e : Entry) → q < length xs → (k : ℕ) × (k < length keys) × ((get_or keys k e).1 ≡ q)
  pub rise : (i j : ℕ) (e : Entry) → i ≤ j → j < length keys → is_lt (entry_cmp (get_or keys j e) (get_or keys i e)) ≡ false

all_placed : (keys : List Entry) (xs : List Attribute) → AreKeys keys xs → All (IsPlaced xs) keys
all_placed keys xs are k e below =
    let within : k < length xs = omega (arith, below, are.all) in
    let place : (get_or keys k e).1 ≡ k = are.places k e within in
    (omega (arith, place, within), λ x. subst (λ (q : ℕ). IsKeyOf (name_at xs q x) (get_or keys k e).0) (sym place) (are.each k e x within))

pub sorted_so : (keys sorted : List Entry) (xs : List Attribute) → AreKeys keys xs → IsPermutation keys sorted → IsSorted entry_cmp sorted → Sorted sorted xs
sorted_so keys sorted xs are moved up = record {
  each = All-permutation (IsPlaced xs) keys sorted moved (all_placed keys xs are);
  found = λ q e within.
      let below : q < length keys = omega (arith, within, are.all) in
      let at = Contains-permutation keys sorted (get_or keys q e) moved (q, below, get_or_default keys q (get_or keys q e) e below) in
      (at.0, at.1, ap (λ (f : Entry). f.1) (get_or_default sorted at.0 e (get_or keys q e) at.1 ∙ at.2) ∙ are.places q e within);
  rise = sorted_far (λ (a b : Entry). is_lt (entry_cmp a b)) (ranks_by entry_order (λ (e : Entry). e)) sorted up;
}

-- ---- names that come again

come_from : (name : List ℕ) (xs : List Attribute) (p q : ℕ) (x : Attribute) → p < q → p < length xs → bytes_eq (name_at xs p x) name ≡ true → is_some (find (is_named name) (map plain_attribute (take q xs))) ≡ true
come_from name [] p q x before within same = absurd (omega (arith, within))
come_from name (y ∷ xs) p zero x before within same = absurd (omega (arith, before))
come_from name (y ∷ xs) zero (suc q) x before within same = ap (λ (b : Bool). is_some (cond b (Some (plain_attribute y)) (find (is_named name) (map plain_attribute (take q xs))))) same
come_from name (y ∷ xs) (suc p) (suc q) x before within same =
    let later = come_from name xs p q x (omega (arith, before)) (omega (arith, within)) same in
    elim (is_named name (plain_attribute y)) as (λ b. is_some (cond b (Some (plain_attribute y)) (find (is_named name) (map plain_attribute (take q xs)))) ≡ true)
    [ true ↦ refl | false ↦ later ]

come_gives : (name : List ℕ) (xs : List Attribute) (q : ℕ) (x : Attribute) → is_some (find (is_named name) (map plain_attribute (take q xs))) ≡ true → (p : ℕ) × (p < q) × (p < length xs) × (bytes_eq (name_at xs p x) name ≡ true)
come_gives name [] zero x come = absurd (let never : ⊥ = cc in never)
come_gives name [] (suc q) x come = absurd (let never : ⊥ = cc in never)
come_gives name (y ∷ xs) zero x come = absurd (let never : ⊥ = cc in never)
come_gives name (y ∷ xs) (suc q) x come =
    (elim (is_named name (plain_attribute y)) as (λ b. is_named name (plain_attribute y) ≡ b → is_some (cond b (Some (plain_attribute y)) (find (is_named name) (map plain_attribute (take q xs)))) ≡ true → (p : ℕ) × (p < suc q) × (p < length (y ∷ xs)) × (bytes_eq (name_at (y ∷ xs) p x) name ≡ true)) [
      | true ↦ λ same _. (0, omega arith, omega arith, same)
      | false ↦ λ _ later. let at = come_gives name xs q x later in (suc at.0, omega (arith, at.1), omega (arith, at.2), at.3)
    ]) refl come

same_itself : (name : List ℕ) → bytes_eq name name ≡ true
same_itself name = nat_list_eq_equiv.refl name

front : (o p : Ordering) → is_lt (ordering_then o p) ≡ false → is_lt o ≡ false
front Less p is = is
front Equal p is = refl
front Greater p is = refl

no_more : (m n : ℕ) → is_lt (nat_cmp n m) ≡ false → m ≤ n
no_more m n is = grind (arith, nat_tests)

-- one whose name came before stands after one with the same key
pub behind_same : (keys : List Entry) (xs : List Attribute) (s : Sorted keys xs) (k : ℕ) (e : Entry) (x : Attribute) → k < length keys → has_come xs (get_or keys k e).1 x ≡ true →
    (0 < k) × (is_same (get_or keys k e).0 (get_or keys (k - 1) e).0 ≡ true)
behind_same keys xs s k e x below come =
    let b = get_or keys k e in
    let m = get_or keys (k - 1) e in
    let p = come_gives (name_at xs b.1 x) xs b.1 x come in
    let i = s.found p.0 e p.2 in
    let a = get_or keys i.0 e in
    let one_name : name_at xs a.1 x ≡ name_at xs b.1 x = ap (λ (q : ℕ). name_at xs q x) i.2 ∙ same_text _ _ (sym p.3) in
    let tied : key_cmp a.0 b.0 ≡ Equal = same_of_name (name_at xs b.1 x) a.0 b.0 (subst (λ (name : List ℕ). IsKeyOf name a.0) one_name ((s.each i.0 e i.1).1 x)) ((s.each k e below).1 x) in
    let less : a.1 < b.1 = omega (arith, i.2, p.1) in
    let rises : is_lt (entry_cmp a b) ≡ true = rw tied (ap is_lt (sym (nat_cmp_is a.1 b.1 Less less))) in
    let not_behind : k ≤ i.0 → ⊥ = λ far. let other = s.rise k i.0 e far i.1 in true≢false (sym rises ∙ other) in
    let ahead : i.0 < k = omega arith in
    let up = s.rise i.0 (k - 1) e (omega (arith, ahead)) (omega (arith, below)) in
    let down = s.rise (k - 1) k e (omega (arith, ahead)) below in
    (omega (arith, ahead), same_from_tied b.0 m.0 (tied_between a.0 m.0 b.0 tied (front _ _ up) (front _ _ down)))

-- one with the key of that before it, whose name did not come before, has its place too
pub same_place : (keys : List Entry) (xs : List Attribute) (s : Sorted keys xs) (k : ℕ) (e : Entry) (x : Attribute) → 0 < k → k < length keys →
    is_same (get_or keys k e).0 (get_or keys (k - 1) e).0 ≡ true → has_come xs (get_or keys k e).1 x ≡ false → (get_or keys (k - 1) e).1 ≡ (get_or keys k e).1
same_place keys xs s k e x after below same new =
    let b = get_or keys k e in
    let m = get_or keys (k - 1) e in
    let ahead : k - 1 < length keys = omega (arith, below) in
    let down : is_lt (entry_cmp b m) ≡ false = s.rise (k - 1) k e (omega arith) below in
    let no_less : m.1 ≤ b.1 = no_more m.1 b.1 (ap (λ (o : Ordering). is_lt (ordering_then o (nat_cmp b.1 m.1))) (sym (tied_from_same b.0 m.0 same)) ∙ down) in
    let one_name : name_at xs b.1 x ≡ name_at xs m.1 x = name_told _ _ b.0 m.0 ((s.each k e below).1 x) ((s.each (k - 1) e ahead).1 x) same in
    let not_less : m.1 < b.1 → ⊥ = λ less.
    true≢false (sym (come_from (name_at xs b.1 x) xs m.1 b.1 x less (s.each (k - 1) e ahead).0 (ap (λ (name : List ℕ). bytes_eq name (name_at xs b.1 x)) (sym one_name) ∙ same_itself (name_at xs b.1 x))) ∙ new) in
    omega arith
