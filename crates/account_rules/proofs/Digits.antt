-- Numbers written in decimal digits.
use Rattle.std.proofs.Common.{◌≡◌, ℕ, ◌+◌, ◌*◌, ◌<◌, true, List, [], ◌∷◌, length, take, get_or, sym, ap, ◌∙◌, ◌-◌, arith}
use Rattle.std.specs.Char.{digit_value, is_ascii_digit}
use Rattle.std.specs.List.{list_all}
use Rattle.std.specs.Str.Parse.{AllDigits, digits_value}
use Rattle.std.proofs.lemmas.Bool.Decides.{nat_tests}
use Rattle.std.proofs.lemmas.Bool.{and_parts}
use Rattle.std.proofs.lemmas.Int.Digits.{digits_value_more}
use Rattle.std.proofs.lemmas.Str.{digit_value_digit}
use Rattle.std.proofs.lemmas.Str.Parse.{digit_at}

digit_from : (c : ℕ) → is_ascii_digit c ≡ true → digit_value c < 10
digit_from c digit = grind (arith, nat_tests)

-- digits in a row are those of a number
pub digits_from : (ds : List ℕ) → list_all is_ascii_digit ds ≡ true → AllDigits 10 ds
digits_from [] all = tt
digits_from (c ∷ cs) all =
    let parts = and_parts (is_ascii_digit c) (list_all is_ascii_digit cs) all in
    (digit_from c parts.0, digits_from cs parts.1)

-- one digit more
pub more_digits : (ds : List ℕ) (i : ℕ) (n : ℕ) → list_all is_ascii_digit ds ≡ true → i < length ds → n ≡ digits_value 10 (take i ds) →
    digits_value 10 (take (i + 1) ds) ≡ n * 10 + (get_or ds i 0 - 48)
more_digits ds i n all within so_far =
    let digit = digit_at ds i (digits_from ds all) within in
    let value = digit_value_digit (get_or ds i 0) digit in
    let same : digit_value (get_or ds i 0) ≡ get_or ds i 0 - 48 = omega arith in
    digits_value_more 10 ds i within ∙ ap (λ (k : ℕ). k * 10 + digit_value (get_or ds i 0)) (sym so_far) ∙ ap (λ (d : ℕ). n * 10 + d) same
