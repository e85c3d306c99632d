-- The rules on grants are kept as a month is granted.
use Rattle.std.proofs.Common.{◌≡◌, ℕ, true, false, cond, ◌==◌, Some, refl, sym, ap, subst, ◌∙◌}
use Rattle.std.specs.Ordering.{nat_cmp}
use Rattle.std.specs.Cmp.{nat_cmp_total, unsigned_tied}
use Rattle.std.specs.FinMap.{FinMap, get, insert, get-insert}
use Rattle.std.proofs.lemmas.Bool.{eqb-true}
use Rattle.account_state.specs.RoomRules.{IsGrant}

pub grants_with : (grants : FinMap nat_cmp ℕ) (month pages : ℕ) → ((m p : ℕ) → get grants m ≡ Some p → IsGrant m p) → IsGrant month pages → (m p : ℕ) → get (insert grants month pages) m ≡ Some p → IsGrant m p
grants_with grants month pages rules is m p here =
    (elim (m == month) as (λ b. (m == month) ≡ b → cond b (Some pages) (get grants m) ≡ Some p → IsGrant m p) [
      | true ↦ λ same that. let this : pages ≡ p = cc in subst (IsGrant m) this (subst (λ n. IsGrant n pages) (sym (eqb-true m month same)) is)
      | false ↦ λ _ that. rules m p that
    ]) refl (ap (λ b. cond b (Some pages) (get grants m)) (sym (unsigned_tied m month)) ∙ sym (get-insert nat_cmp_total grants month pages m) ∙ here)
