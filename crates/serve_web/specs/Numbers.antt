-- Rule: Numbers of a path or a query (all this project's own).
use Rattle.std.specs.Prelude.{ℕ, ℤ, pos, ◌-ℤ◌, Bool, ◌&&◌, ◌==◌, List, [], ◌∷◌, Option, Some, None, if◌then◌else◌, length, nat_le, nat_lt, option_map}
use Rattle.std.specs.Char.{is_ascii_digit}
use Rattle.std.specs.List.{list_all}
use Rattle.std.specs.Str.Parse.{digits_value}

-- it has digits alone: at least one, and so many at most
abbrev pub is_number : (most : ℕ) (digits : List ℕ) → Bool
is_number most digits =
    nat_lt 0 (length digits) && (nat_le (length digits) most && list_all is_ascii_digit digits)

abbrev pub said_in : (most : ℕ) (digits : List ℕ) → Option ℕ
said_in most digits = if is_number most digits then Some (digits_value 10 digits) else None

-- a number of jobs, copies or pages: 1 to 8 digits
abbrev pub number_said : List ℕ → Option ℕ
number_said = said_in 8

-- a number of units: 1 to 18 digits
abbrev pub large_said : List ℕ → Option ℕ
large_said = said_in 18

-- the same, which a minus may stand in front of
abbrev pub signed_said : List ℕ → Option ℤ
signed_said [] = None
signed_said (c ∷ digits) =
    if c == 45
    then option_map (λ number. pos 0 -ℤ pos number) (large_said digits)
    else option_map (λ number. pos number) (large_said (c ∷ digits))
