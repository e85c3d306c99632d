-- A map from numbers once a value is put into it.
use Rattle.std.proofs.Common.{◌≡◌, ℕ, cond, ◌==◌, Option, Some, ap, ◌∙◌}
use Rattle.std.specs.Cmp.{nat_cmp_total, unsigned_tied}
use Rattle.std.specs.FinMap.{FinMap, get, insert, get-insert}
use Rattle.std.specs.Ordering.{nat_cmp}

-- a map by numbers in which one is new, or another
pub inserted : {X : Type 0} (m : FinMap nat_cmp X) (number : ℕ) (x : X) (q : ℕ) → get (insert m number x) q ≡ cond (q == number) (Some x) (get m q)
inserted {X} m number x q = get-insert nat_cmp_total m number x q ∙ ap (λ b. cond {A = Option X} b (Some x) (get m q)) (unsigned_tied q number)
