-- Rule: What one field says: numbers, months, choices and bytes.
use Rattle.std.specs.Prelude.{◌≡◌, ℕ, ◌+◌, ◌*◌, ◌-◌, Bool, true, false, ◌&&◌, ◌==◌, bytes_eq, nat_le, if◌then◌else◌, List, length, slice_index, Option, Some, None, option_map, option_and_then}
use Rattle.std.specs.Str.Parse.{IsNumeral, digits_value}

-- one of two words
abbrev pub choice_said : (first second text : List ℕ) → Option Bool
choice_said first second text =
    if bytes_eq text first then Some true
    else if bytes_eq text second then Some false
    else None

-- a decimal digit
abbrev pub digit_said : ℕ → Option ℕ
digit_said byte = if nat_le 48 byte && nat_le byte 57 then Some (byte - 48) else None

abbrev pub after_tens : (ones tens : ℕ) → Option ℕ
after_tens ones tens = option_map (λ one. tens * 10 + one) (digit_said ones)

abbrev pub two_digits_said : (tens ones : ℕ) → Option ℕ
two_digits_said tens ones = option_and_then (after_tens ones) (digit_said tens)

-- decimal digits, the first of which is 0 in `0` alone
pub record IsDecimal (text : List ℕ) : Type 0 where
  pub numeral : IsNumeral 10 text
  pub no_leading_zero : slice_index text 0 ≡ 48 → length text ≡ 1

-- a number, in decimal
abbrev pub SaysNumber : (text : List ℕ) → ℕ → Type 0
SaysNumber text number = IsDecimal text × (digits_value 10 text ≡ number)

-- twelve times the year, and 0 for January to 11 for December; the years 1970 to 2099
abbrev pub month_number : (year month : ℕ) → Option ℕ
month_number year month =
    if nat_le 1970 year && nat_le year 2099 && nat_le 1 month && nat_le month 12
    then Some (year * 12 + month - 1)
    else None

-- which the years 1970 to 2099 give: from January 1970
abbrev pub first_month : ℕ
first_month = 23640

-- to December 2099
abbrev pub last_month : ℕ
last_month = 25199

abbrev pub with_year : (centuries years month : Option ℕ) → Option ℕ
with_year None years month = None
with_year (Some centuries) None month = None
with_year (Some centuries) (Some years) None = None
with_year (Some centuries) (Some years) (Some month) = month_number (centuries * 100 + years) month

-- seven bytes `YYYY-MM`
abbrev pub month_said : List ℕ → Option ℕ
month_said text =
    if (length text == 7) && (slice_index text 4 == 45)
    then with_year (two_digits_said (slice_index text 0) (slice_index text 1))
    (two_digits_said (slice_index text 2) (slice_index text 3))
    (two_digits_said (slice_index text 5) (slice_index text 6))
    else None
