-- A number that a moment was made of.
use Rattle.std.proofs.Common.{◌≡◌, ◌<◌, ◌≤◌, ◌↔◌, ℕ, Option, Some, IfSome, IsNone, ⊎_elim, subst}
use Rattle.std.proofs.lemmas.Bool.{cases_lt}
use Rattle.account_rules.specs.Limits.{last_moment}

-- it lies in the range
pub in_time : (told : Option ℕ) (now moment : ℕ) → told ≡ Some moment → (IsNone told ↔ (last_moment < now)) → now ≤ last_moment
in_time told now moment is none =
    ⊎_elim
    (λ (late : last_moment < now). absurd (let no = subst IsNone is (none.1 late) in cc))
    (λ (early : now ≤ last_moment). early)
    (cases_lt last_moment now)

-- and is the moment
pub same_moment : (told : Option ℕ) (now moment : ℕ) → told ≡ Some moment → IfSome told (λ it. it ≡ now) → moment ≡ now
same_moment told now moment is value = subst (λ (o : Option ℕ). IfSome o (λ it. it ≡ now)) is value
