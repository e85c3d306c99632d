-- The latest month that has no grant, as it is looked for from the latest on.
use Rattle.std.proofs.Common.{◌≡◌, ◌<◌, ◌≤◌, ℕ, ◌+◌, List, arith, inl, inr, subst}
use Rattle.std.proofs.Math.Nat.{eq-or-lt_of_le}
use Rattle.account_rules.specs.Limits.{first_month}
use Rattle.client_operator.specs.Refunds.{HasGrant, HasNoGrant, IsLatestFree}

-- each month behind this one has a grant, of those before 2000-01
abbrev pub HasLaterGrants : (lines : List (List ℕ)) (back : ℕ) → Type 0
HasLaterGrants lines back = (other : ℕ) → 24000 ≤ other + back → other < 24000 → HasGrant lines other

pub HasLaterGrants-none : (lines : List (List ℕ)) → HasLaterGrants lines 0
HasLaterGrants-none lines other least most = absurd (omega (arith, least, most))

pub HasLaterGrants-more : (lines : List (List ℕ)) (back month : ℕ) → month + back + 1 ≡ 24000
    → HasLaterGrants lines back → HasGrant lines month → HasLaterGrants lines (back + 1)
HasLaterGrants-more lines back month place later has other least most =
    elim (eq-or-lt_of_le least) [
      | inl is ↦
          let same : month ≡ other = omega (arith, is, place) in
          subst (HasGrant lines) same has
      | inr less ↦
          let behind : 24000 ≤ other + back = omega (arith, less) in
          later other behind most
    ]

pub IsLatestFree-of : (lines : List (List ℕ)) (back month : ℕ) → month + back + 1 ≡ 24000
    → first_month ≤ month → HasLaterGrants lines back → HasNoGrant lines month → IsLatestFree lines month
IsLatestFree-of lines back month place least later none = record {
  first = least;
  last = omega (arith, place);
  free = none;
  later = λ other behind most.
      let far : 24000 ≤ other + back = omega (arith, place, behind) in
      later other far most;
}
