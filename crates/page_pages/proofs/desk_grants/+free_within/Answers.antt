use Rattle.std.proofs.Common.{◌≡◌, ℕ, ◌+◌, ◌-◌, suc, true, false, List, refl, sym, ◌∙◌, arith, Option, Some, None}
use Rattle.std.specs.List.{list_any}
use Rattle.account_rules.specs.declared.account.Grant.{Grant}
use Rattle.page_pages.specs.DeskGrants.{free_within, is_for, months_back}
use Rattle.page_pages.proofs.desk_grants.+free_within.Goals as goal

none_left : (grants : List Grant) (count : ℕ) → count ≡ 0 → ◌≡◌ {A = Option ℕ} None (free_within grants count)
unfolding months_back
none_left grants count e = rw e

-- where the last of them has a grant, it is one of those before
passed : (grants : List Grant) (before count : ℕ) → count ≡ suc before → list_any (is_for (23640 + before)) grants ≡ true → free_within grants before ≡ free_within grants count
unfolding months_back
passed grants before count e taken = rw e (rw taken refl)

-- else it is the last
last : (grants : List Grant) (before count : ℕ) → count ≡ suc before → list_any (is_for (23640 + before)) grants ≡ false → ◌≡◌ {A = Option ℕ} (Some (23640 + before)) (free_within grants count)
unfolding months_back
last grants before count e free = rw e (rw free refl)

pub returns-then-count-eq0 : goal.returns-then-count-eq0
returns-then-count-eq0 t c = none_left c.args.grants.now c.args.count (omega arith)

pub returns-then-has_grant : goal.returns-then-has_grant
returns-then-has_grant t c =
    c.free_within.ensures ∙ passed c.args.grants.now (c.args.count - 1) c.args.count (omega arith) (sym c.has_grant.ensures ∙ c.if-has_grant.true)

pub returns-else-has_grant : goal.returns-else-has_grant
returns-else-has_grant t c =
    last c.args.grants.now (c.args.count - 1) c.args.count (omega arith) (sym c.has_grant.ensures ∙ c.if-has_grant.false)
