-- How many digits a number is told in.
use Rattle.std.proofs.Common.{ℕ, zero, suc, ◌+◌, ◌/◌, ◌%◌, ◌≤◌, ◌==◌, ℤ, pos, negsuc, true, false, cond, List, [], ◌∷◌, length, arith}
use Rattle.std.specs.Fmt.{decimal, digit_glyph, digits, digits_onto, signed_decimal}

onto_few : (k n : ℕ) (behind : List ℕ) → length (digits_onto k 10 false n behind) ≤ k + length behind
onto_few zero n behind = omega arith
onto_few (suc k) n behind =
    let more = digit_glyph false (n % 10) ∷ behind in
    let rest = onto_few k (n / 10) more in
    elim (n / 10 == 0) as (λ b. length (cond b more (digits_onto k 10 false (n / 10) more)) ≤ suc k + length behind) [ true ↦ omega arith | false ↦ omega (arith, rest) ]

-- 64 at most, whatever the number
pub decimal_few : (n : ℕ) → length (decimal n) ≤ 64
unfolding digits
decimal_few n = onto_few 64 n []

pub signed_few : (z : ℤ) → length (signed_decimal z) ≤ 65
signed_few (pos n) = let few = decimal_few n in omega arith
signed_few (negsuc n) = let few = decimal_few (suc n) in omega arith
