-- Numbers written in 18 digits at most.
use Rattle.std.proofs.Common.{◌≡◌, ℕ, ◌^◌, ◌<◌, ◌≤◌, true, List, length, take, lit<, lit≤, arith}
use Rattle.std.specs.Char.{is_ascii_digit}
use Rattle.std.specs.List.{list_all}
use Rattle.std.specs.Str.Parse.{digits_value}
use Rattle.std.proofs.Math.Nat.{pow-le-pow_right}
use Rattle.std.proofs.lemmas.Int.Digits.{digits_value-lt}
use Rattle.std.proofs.lemmas.Str.Parse.{digits_value-take-le}
use Rattle.account_rules.proofs.Digits.{digits_from}

-- eighteen digits write a number below this
pub eighteen_below : (n : ℕ) → n ≤ 18 → 10 ^ n ≤ 1000000000000000000
eighteen_below n few = pow-le-pow_right (lit< tt) few

pub own_below : (ds : List ℕ) → list_all is_ascii_digit ds ≡ true → digits_value 10 ds < 10 ^ length ds
own_below ds all = digits_value-lt 10 ds (digits_from ds all)

-- what they have written so far is below that too
pub so_far_below : (ds : List ℕ) (i : ℕ) → list_all is_ascii_digit ds ≡ true → length ds ≤ 18 → digits_value 10 (take i ds) < 1000000000000000000
so_far_below ds i all few = omega (arith, own_below ds all, eighteen_below (length ds) few, digits_value-take-le 10 ds i (lit≤ tt))
