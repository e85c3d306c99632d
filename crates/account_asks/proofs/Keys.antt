-- Keys of names: their order, and that a key tells its name.
use Rattle.std.proofs.Common.{◌≡◌, ℕ, zero, suc, ◌<◌, Bool, true, false, ◌&&◌, List, [], ◌∷◌, length, drop, get_or, nat_eq, refl, sym, ap, ◌∙◌, arith}
use Rattle.std.specs.declared.cmp.Ordering.{Ordering}
use Rattle.std.specs.declared.cmp.Ordering.TheVariants.{Less, Equal, Greater}
use Rattle.std.specs.Int.{to_be_bytes, w64}
use Rattle.std.proofs.lemmas.Bool.{eqb-true}
use Rattle.std.specs.Ordering.{nat_cmp, is_eq, is_lt, ordering_then, ordering_reverse}
use Rattle.std.specs.Cmp.{IsTotalOrder, unsigned_ties}
use Rattle.std.specs.Cmp.Lexicographic.{pointwise, same_text, slice_cmp, texts_ties}
use Rattle.std.proofs.lemmas.Cmp.{nat_cmp_total, nat_list_cmp_total, on_total, then_total, alike_right, tied_back, tied_itself}
use Rattle.account_asks.specs.declared.firsts.Key.{Key}
use Rattle.account_asks.specs.ProofNames.{IsKeyOf, byte_at, first_eight}

-- ---- the order

abbrev pub key_cmp : Key → Key → Ordering
key_cmp a b = ordering_then (nat_cmp a.first b.first) (ordering_then (nat_cmp a.length b.length) (slice_cmp nat_cmp a.rest.now b.rest.now))

abbrev pub is_same : Key → Key → Bool
is_same a b = nat_eq a.first b.first && (nat_eq a.length b.length && pointwise nat_eq a.rest.now b.rest.now)

pub key_order : IsTotalOrder key_cmp
key_order = then_total (on_total (λ (k : Key). k.first) nat_cmp_total) (then_total (on_total (λ (k : Key). k.length) nat_cmp_total) (on_total (λ (k : Key). k.rest.now) nat_list_cmp_total))

both_tied : (o p : Ordering) → is_eq (ordering_then o p) ≡ is_eq o && is_eq p
both_tied Less p = refl
both_tied Equal p = refl
both_tied Greater p = refl

same_tied : (a b : Key) → is_same a b ≡ is_eq (key_cmp a b)
same_tied a b =
    rw (both_tied (nat_cmp a.first b.first) (ordering_then (nat_cmp a.length b.length) (slice_cmp nat_cmp a.rest.now b.rest.now)), both_tied (nat_cmp a.length b.length) (slice_cmp nat_cmp a.rest.now b.rest.now), ← unsigned_ties a.first b.first, ← unsigned_ties a.length b.length, ← texts_ties a.rest.now b.rest.now) refl

tied_so : (o : Ordering) → is_eq o ≡ true → o ≡ Equal
tied_so Less is = absurd (let never : ⊥ = cc in never)
tied_so Equal is = refl
tied_so Greater is = absurd (let never : ⊥ = cc in never)

pub tied_from_same : (a b : Key) → is_same a b ≡ true → key_cmp a b ≡ Equal
tied_from_same a b same = tied_so (key_cmp a b) (sym (same_tied a b) ∙ same)

pub same_from_tied : (a b : Key) → key_cmp a b ≡ Equal → is_same a b ≡ true
same_from_tied a b tied = same_tied a b ∙ ap is_eq tied

level : (o : Ordering) → is_lt o ≡ false → is_lt (ordering_reverse o) ≡ false → o ≡ Equal
level Less down up = absurd (let never : ⊥ = cc in never)
level Equal down up = refl
level Greater down up = absurd (let never : ⊥ = cc in never)

-- between two that tie all do
pub tied_between : (a m b : Key) → key_cmp a b ≡ Equal → is_lt (key_cmp m a) ≡ false → is_lt (key_cmp b m) ≡ false → key_cmp b m ≡ Equal
tied_between a m b tied up down =
    tied_back key_order m b
    (level (key_cmp m b) (ap is_lt (sym (alike_right key_order a b m tied)) ∙ up) (ap is_lt (sym (key_order.antisymm b m)) ∙ down))

-- ---- a key and its name

-- keys of one name are the same
pub same_of_name : (name : List ℕ) (a b : Key) → IsKeyOf name a → IsKeyOf name b → key_cmp a b ≡ Equal
same_of_name name a b of_a of_b =
    let first : nat_cmp a.first b.first ≡ Equal = ap (λ (n : ℕ). nat_cmp a.first n) (of_b.first ∙ sym of_a.first) ∙ tied_itself nat_cmp_total a.first in
    let long : nat_cmp a.length b.length ≡ Equal = ap (λ (n : ℕ). nat_cmp a.length n) (of_b.count ∙ sym of_a.count) ∙ tied_itself nat_cmp_total a.length in
    let rest : slice_cmp nat_cmp a.rest.now b.rest.now ≡ Equal = ap (λ (l : List ℕ). slice_cmp nat_cmp a.rest.now l) (of_b.rest ∙ sym of_a.rest) ∙ tied_itself nat_list_cmp_total a.rest.now in
    rw (first, long, rest) refl

both_so : (b c : Bool) → b && c ≡ true → (b ≡ true) × (c ≡ true)
both_so true c is = (refl, is)
both_so false c is = absurd (let never : ⊥ = cc in never)

eight : (name : List ℕ) (k : ℕ) → k < 8 → get_or (first_eight name) k 0 ≡ byte_at name k
eight name zero below = refl
eight name (suc zero) below = refl
eight name (suc (suc zero)) below = refl
eight name (suc (suc (suc zero))) below = refl
eight name (suc (suc (suc (suc zero)))) below = refl
eight name (suc (suc (suc (suc (suc zero))))) below = refl
eight name (suc (suc (suc (suc (suc (suc zero)))))) below = refl
eight name (suc (suc (suc (suc (suc (suc (suc zero))))))) below = refl
eight name (suc (suc (suc (suc (suc (suc (suc (suc k)))))))) below = absurd (omega (arith, below))

-- texts of one length that are the same up to a place and from it on
same_by_parts : (n : ℕ) (a b : List ℕ) → length a ≡ length b → ((k : ℕ) → k < n → byte_at a k ≡ byte_at b k) → drop n a ≡ drop n b → a ≡ b
same_by_parts zero a b long front back = back
same_by_parts (suc n) [] [] long front back = refl
same_by_parts (suc n) [] (y ∷ b) long front back = absurd (omega (arith, long))
same_by_parts (suc n) (x ∷ a) [] long front back = absurd (omega (arith, long))
same_by_parts (suc n) (x ∷ a) (y ∷ b) long front back =
    let first : x ≡ y = front 0 (omega arith) in
    let rest : a ≡ b = same_by_parts n a b (omega (arith, long)) (λ k below. front (suc k) (omega (arith, below))) back in
    ap (λ (z : ℕ). z ∷ a) first ∙ ap (λ (l : List ℕ). y ∷ l) rest

-- one key has one name
pub name_told : (m n : List ℕ) (a b : Key) → IsKeyOf m a → IsKeyOf n b → is_same a b ≡ true → m ≡ n
name_told m n a b of_a of_b same =
    let first = both_so _ _ same in
    let rest = both_so _ _ first.1 in
    let numbers : a.first ≡ b.first = eqb-true a.first b.first first.0 in
    let long : length m ≡ length n = sym of_a.count ∙ eqb-true a.length b.length rest.0 ∙ of_b.count in
    let bytes : first_eight m ≡ first_eight n = sym of_a.bytes ∙ ap (to_be_bytes w64) numbers ∙ of_b.bytes in
    same_by_parts 8 m n long (λ k below. sym (eight m k below) ∙ ap (λ (l : List ℕ). get_or l k 0) bytes ∙ eight n k below)
    (sym of_a.rest ∙ same_text a.rest.now b.rest.now (sym rest.1) ∙ of_b.rest)
