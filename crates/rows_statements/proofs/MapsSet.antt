-- The rows of a map with one value set, or with those of a job removed.
use Rattle.std.proofs.Common.{◌≡◌, ◌≢◌, ℕ, ℤ, pos, negsuc, Bool, true, false, cond, not, ◌&&◌, ◌==◌, Option, Some, None, option_map, refl, sym, ap, subst, ◌∙◌, arith}
use Rattle.std.specs.Ordering.{nat_cmp}
use Rattle.std.specs.Cmp.{nat_cmp_total, unsigned_tied}
use Rattle.std.specs.FinMap.{FinMap, get, insert, get-insert}
use Rattle.std.proofs.lemmas.Bool.Decides.{nat_tests}
use Rattle.sqlite_value.specs.Order.{Row}
use Rattle.account_rules.specs.declared.job.Document.{Document}
use Rattle.account_state.specs.Rooms.{place_cmp}
use Rattle.account_state.specs.Changes.{without_documents}
use Rattle.account_state.proofs.DocumentMaps.{place_cmp_total, pair_tie}
use Rattle.account_state.proofs.KeptDocuments.{left_document}
use Rattle.rows_tables.specs.Accounts.{under, under_pair, whole}

same : (k : ℕ) → (k == k) ≡ true
same k = grind (arith, nat_tests)

other : (k n : ℕ) → k ≢ n → (n == k) ≡ false
other k n apart = grind (arith, nat_tests)

-- ---- one number

module _ {X : Type 0} (cells : ℕ → X → Row) (map : FinMap nat_cmp X) (k : ℕ) (v : X) where
  set_here : under (insert map k v) (pos k) ≡ Some v
  set_here = get-insert nat_cmp_total map k v k ∙ ap (λ b. cond b (Some v) (get map k)) (unsigned_tied k k ∙ same k)

  set_elsewhere : (z : ℤ) → pos k ≢ z → under (insert map k v) z ≡ under map z
  set_elsewhere (pos n) apart = get-insert nat_cmp_total map k v n ∙ ap (λ b. cond b (Some v) (get map n)) (unsigned_tied n k ∙ other k n (λ e. apart (ap pos e)))
  set_elsewhere (negsuc n) apart = refl

  -- where the test tells just its number
  pub set_under : (z : ℤ) (test : Bool) (was new : Option Row) → (test ≡ true → pos k ≡ z) → (pos k ≡ z → test ≡ true) → was ≡ option_map (cells (whole z)) (under map z)
      → new ≡ cond test (Some (cells k v)) was → new ≡ option_map (cells (whole z)) (under (insert map k v) z)
  set_under z true was new met here held is = is ∙ subst (λ y. Some (cells k v) ≡ option_map (cells (whole y)) (under (insert map k v) y)) (met refl) (sym (ap (option_map (cells k)) set_here))
  set_under z false was new met here held is =
      let apart : pos k ≢ z = λ e. let no : false ≡ true = here e in cc in
      is ∙ held ∙ sym (ap (option_map (cells (whole z))) (set_elsewhere z apart))

-- ---- the number of a job and that of a document of it

both : (j n : ℕ) → ((j == j) && (n == n)) ≡ true
both j n = grind (arith, nat_tests)

not_both : (j n k m : ℕ) → (j ≡ k → n ≡ m → ⊥) → ((j == k) && (n == m)) ≡ false
not_both j n k m apart = elim ((j == k) && (n == m)) as (λ b. ((j == k) && (n == m)) ≡ b → b ≡ false) [ true ↦ λ is. absurd (apart (parts j n k m is).0 (parts j n k m is).1) | false ↦ λ _. refl ] refl
  where
    parts : (j n k m : ℕ) → ((j == k) && (n == m)) ≡ true → (j ≡ k) × (n ≡ m)
    parts j n k m is = grind (arith, nat_tests)

module _ (cells : Document → Row) (map : FinMap place_cmp Document) (j n : ℕ) (v : Document) where
  placed_here : under_pair (insert map (j, n) v) (pos j) (pos n) ≡ Some v
  placed_here = get-insert place_cmp_total map (j, n) v (j, n) ∙ ap (λ b. cond b (Some v) (get map (j, n))) (pair_tie j n j n ∙ both j n)

  placed_elsewhere : (y z : ℤ) → (pos j ≡ y → pos n ≡ z → ⊥) → under_pair (insert map (j, n) v) y z ≡ under_pair map y z
  placed_elsewhere (pos k) (pos m) apart =
      get-insert place_cmp_total map (j, n) v (k, m) ∙ ap (λ b. cond b (Some v) (get map (k, m))) (pair_tie k m j n ∙ not_both j n k m (λ e f. apart (ap pos e) (ap pos f)))
  placed_elsewhere (pos k) (negsuc m) apart = refl
  placed_elsewhere (negsuc k) (pos m) apart = refl
  placed_elsewhere (negsuc k) (negsuc m) apart = refl

  pub set_at_place : (y z : ℤ) (test : Bool) (was new : Option Row) → (test ≡ true → (pos j ≡ y) × (pos n ≡ z)) → (pos j ≡ y → pos n ≡ z → test ≡ true) → was ≡ option_map cells (under_pair map y z)
      → new ≡ cond test (Some (cells v)) was → new ≡ option_map cells (under_pair (insert map (j, n) v) y z)
  set_at_place y z true was new met here held is =
      let at = met refl in
      is ∙ subst (λ m. Some (cells v) ≡ option_map cells (under_pair (insert map (j, n) v) y m)) at.1 (subst (λ k. Some (cells v) ≡ option_map cells (under_pair (insert map (j, n) v) k (pos n))) at.0 (sym (ap (option_map cells) placed_here)))
  set_at_place y z false was new met here held is =
      let apart : pos j ≡ y → pos n ≡ z → ⊥ = λ e f. let no : false ≡ true = here e f in cc in
      is ∙ held ∙ sym (ap (option_map cells) (placed_elsewhere y z apart))

-- ---- all documents of a job

module _ (cells : Document → Row) (map : FinMap place_cmp Document) (j : ℕ) where
  none_here : (z : ℤ) → under_pair (without_documents map j) (pos j) z ≡ None
  none_here (pos m) = left_document map j (j, m) ∙ ap (λ b. cond (not b) (get map (j, m)) None) (same j)
  none_here (negsuc m) = refl

  left_elsewhere : (y z : ℤ) → pos j ≢ y → under_pair (without_documents map j) y z ≡ under_pair map y z
  left_elsewhere (pos k) (pos m) apart = left_document map j (k, m) ∙ ap (λ b. cond (not b) (get map (k, m)) None) (other j k (λ e. apart (ap pos e)))
  left_elsewhere (pos k) (negsuc m) apart = refl
  left_elsewhere (negsuc k) (pos m) apart = refl
  left_elsewhere (negsuc k) (negsuc m) apart = refl

  pub removed_under : (y z : ℤ) (test : Bool) (was new : Option Row) → (test ≡ true → pos j ≡ y) → (pos j ≡ y → test ≡ true) → was ≡ option_map cells (under_pair map y z)
      → new ≡ cond test None was → new ≡ option_map cells (under_pair (without_documents map j) y z)
  removed_under y z true was new met here held is = is ∙ subst (λ k. None ≡ option_map cells (under_pair (without_documents map j) k z)) (met refl) (sym (ap (option_map cells) (none_here z)))
  removed_under y z false was new met here held is =
      let apart : pos j ≢ y = λ e. let no : false ≡ true = here e in cc in
      is ∙ held ∙ sym (ap (option_map cells) (left_elsewhere y z apart))
