-- Rule: What one record of a file of grants says.
use Rattle.std.specs.Prelude.{◌≤◌, ◌+◌, ◌==◌, ◌&&◌, ◌||◌, not, ℕ, Bool, nat_le, nat_lt, if◌then◌else◌, List, [], ◌∷◌, length, slice_index, Option, Some, None, unwrap_or, ⊤}
use Rattle.std.specs.Char.{is_ascii_digit}
use Rattle.std.specs.List.{list_all}
use Rattle.std.specs.Str.Parse.{digits_value}
use Rattle.input_fields.specs.Fields.{month_said}
use Rattle.account_rules.specs.Limits.{first_month, last_month, most_pages}
use Rattle.account_rules.specs.Names.{is_name}
use Rattle.input_fields.specs.declared.grant_line.GrantLine.{GrantLine}
use Rattle.input_fields.specs.declared.grant_line.GrantLine.TheVariants.{Good, Bad}

-- a name of an account
abbrev pub account_said : List ℕ → Option (List ℕ)
account_said text = if is_name text then Some text else None

-- decimal digits, the first of which is 0 in `0` alone
abbrev pub is_decimal : List ℕ → Bool
is_decimal text = nat_lt 0 (length text) && list_all is_ascii_digit text
    && (length text == 1 || not (slice_index text 0 == 48))

-- pages in decimal, up to the most that one grant has
abbrev pub pages_said : List ℕ → Option ℕ
pages_said text =
    let pages : ℕ = digits_value 10 text in
    if is_decimal text && nat_le pages most_pages then Some pages else None

-- a grant, where each of its three fields says what it is to say
abbrev pub good_line : (account : Option (List ℕ)) (month pages : Option ℕ) → Option GrantLine
good_line (Some account) (Some month) (Some pages) = Some (Good account month pages)
good_line (Some account) (Some month) None = None
good_line (Some account) None pages = None
good_line None month pages = None

-- the record of this number: a grant where it has three fields, else bad
abbrev pub grant_line : (number : ℕ) (fields : List (List ℕ)) → GrantLine
grant_line number (account ∷ month ∷ pages ∷ []) =
    unwrap_or (good_line (account_said account) (month_said month) (pages_said pages)) (Bad number)
grant_line number [] = Bad number
grant_line number (account ∷ []) = Bad number
grant_line number (account ∷ month ∷ []) = Bad number
grant_line number (account ∷ month ∷ pages ∷ more ∷ rest) = Bad number

-- records in their order, the first of which has this number
abbrev pub lines_from : (number : ℕ) (records : List (List (List ℕ))) → List GrantLine
lines_from number [] = []
lines_from number (first ∷ rest) = grant_line number first ∷ lines_from (number + 1) rest

-- all records, counted from 1
abbrev pub grant_lines : List (List (List ℕ)) → List GrantLine
grant_lines records = lines_from 1 records

-- a grant lies within the months of grants and the most pages of one
abbrev pub IsInRange : GrantLine → Type 0
IsInRange (Good account month pages) =
    (first_month ≤ month) × (month ≤ last_month) × (pages ≤ most_pages)
IsInRange (Bad number) = ⊤
