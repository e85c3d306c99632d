-- Rule: What the name of an account or a device is.
use Rattle.std.specs.Prelude.{ℕ, Bool, false, ◌&&◌, ◌||◌, ◌==◌, if◌then◌else◌, nat_le, nat_lt, slice_index, List, length, Option, IfSome, IsTrue}
use Rattle.std.specs.List.{list_all}
use Rattle.account_rules.specs.Limits.{longest_name}

-- `a` to `z`
abbrev pub is_letter : ℕ → Bool
is_letter b = nat_le 97 b && nat_le b 122

-- a letter, `0` to `9` or `-`
abbrev pub is_name_byte : ℕ → Bool
is_name_byte b = is_letter b || (nat_le 48 b && nat_le b 57) || b == 45

-- such bytes, the first of them a letter
abbrev pub is_name : List ℕ → Bool
is_name bytes =
    if length bytes == 0 || nat_lt longest_name (length bytes) then false
    else is_letter (slice_index bytes 0) && list_all is_name_byte bytes

-- a device that a job is bound to has a name, which is not empty
abbrev pub IsNameOrNone : Option (List ℕ) → Type 0
IsNameOrNone device = IfSome device (λ name. IsTrue (is_name name))
