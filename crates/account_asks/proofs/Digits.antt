-- Numbers written in six digits at most.
use Rattle.std.proofs.Common.{◌≡◌, ℕ, ◌^◌, ◌<◌, ◌≤◌, true, List, length, take, lit<, lit≤, arith}
use Rattle.std.specs.Char.{is_ascii_digit}
use Rattle.std.specs.List.{list_all}
use Rattle.std.specs.Str.Parse.{digits_value}
use Rattle.std.proofs.Math.Nat.{pow-le-pow_right}
use Rattle.std.proofs.lemmas.Int.Digits.{digits_value-lt}
use Rattle.std.proofs.lemmas.Str.Parse.{digits_value-take-le}
use Rattle.account_rules.proofs.Digits.{digits_from}

power_below : (n : ℕ) → n ≤ 6 → 10 ^ n ≤ 1000000
power_below n few = pow-le-pow_right (lit< tt) few

-- six digits write a number below a million
pub few_below : (ds : List ℕ) → list_all is_ascii_digit ds ≡ true → length ds ≤ 6 → digits_value 10 ds < 1000000
few_below ds all few =
    let own : digits_value 10 ds < 10 ^ length ds = digits_value-lt 10 ds (digits_from ds all) in
    let most : 10 ^ length ds ≤ 1000000 = power_below (length ds) few in
    omega arith

-- what a few digits have written so far is below a million
pub so_far_below : (ds : List ℕ) (i : ℕ) → list_all is_ascii_digit ds ≡ true → length ds ≤ 6 → digits_value 10 (take i ds) < 1000000
so_far_below ds i all few = omega (arith, few_below ds all few, digits_value-take-le 10 ds i (lit≤ tt))
