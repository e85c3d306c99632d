-- The order of the places of documents.
use Rattle.std.proofs.Common.{◌≡◌, ℕ, ◌==◌, ◌&&◌, arith}
use Rattle.std.specs.Ordering.{nat_cmp, eq_by_cmp}
use Rattle.std.specs.Cmp.{IsTotalOrder, nat_cmp_total, on_total, then_total}
use Rattle.std.specs.FinMap.{IsAntisymmetric}
use Rattle.std.proofs.lemmas.Map.Lookups.{exact_pairs, exact_unsigned}
use Rattle.std.proofs.lemmas.Bool.Decides.{nat_tests}
use Rattle.account_state.specs.Rooms.{place_cmp}

pub place_cmp_total : IsTotalOrder place_cmp
place_cmp_total = then_total (on_total (λ (place : ℕ × ℕ). place.0) nat_cmp_total) (on_total (λ (place : ℕ × ℕ). place.1) nat_cmp_total)

pub exact_places : IsAntisymmetric place_cmp
exact_places = exact_pairs nat_cmp nat_cmp exact_unsigned exact_unsigned

pub pair_tie : (a b x y : ℕ) → eq_by_cmp place_cmp (a, b) (x, y) ≡ ((x == a) && (y == b))
pair_tie a b x y = grind (arith, nat_tests)
