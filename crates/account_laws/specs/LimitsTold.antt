-- The numbers within which an event has to lie, what a name is, and how names are ordered (all this
-- project's own).
use Rattle.std.specs.Prelude.{◌≡◌, ℕ, Bool, true, false, ◌&&◌, ◌||◌, ◌==◌, nat_le, nat_lt, if◌then◌else◌, slice_index, List, length}
use Rattle.std.specs.Cmp.Lexicographic.{slice_cmp}
use Rattle.std.specs.List.{list_all}
use Rattle.std.specs.Ordering.{nat_cmp}
use Rattle.account_machine.specs.Events.{PlainEvent, OfAccount, OfDevice, Release, Settle, Grant, Rate}
use Rattle.account_machine.specs.Fits.{fits}
use Rattle.account_rules.specs.Devices.{name_cmp}
use Rattle.account_rules.specs.Limits.{last_moment}
use Rattle.account_rules.specs.Names.{is_name}

-- impressions of 31 bits; months from January 1970 to December 2099, by the year times 12, and 0 for
-- January to 11 for December; 1000000000 pages at most; and rates from 1 to 100
abbrev pub is_within : PlainEvent → Bool
is_within (OfAccount account (Release device job password impressions)) =
    nat_le impressions 2147483647
is_within (OfAccount account (Settle device job impressions failed)) = nat_le impressions 2147483647
is_within (OfAccount account (Grant month pages)) =
    nat_le 23640 month && nat_le month 25199 && nat_le pages 1000000000
is_within (OfDevice device (Rate units)) = nat_le 1 units && nat_le units 100
is_within _ = true

abbrev pub EventsLieWithin : Type 0
EventsLieWithin = (e : PlainEvent) → fits e ≡ is_within e

-- moments up to the end of 2099, in seconds since 1970-01-01T00:00:00Z
abbrev pub MomentsEnd : Type 0
MomentsEnd = last_moment ≡ 4102444799

-- 1 to 32 bytes: `a` to `z`, `0` to `9` and `-`, the first of them a letter
abbrev pub is_small_letter : ℕ → Bool
is_small_letter byte = nat_le 97 byte && nat_le byte 122

abbrev pub is_of_names : ℕ → Bool
is_of_names byte = is_small_letter byte || (nat_le 48 byte && nat_le byte 57) || byte == 45

abbrev pub NamesAreThese : Type 0
NamesAreThese = (bytes : List ℕ) → is_name bytes
    ≡ (if length bytes == 0 || nat_lt 32 (length bytes) then false
    else is_small_letter (slice_index bytes 0) && list_all is_of_names bytes)

-- byte by byte, and the shorter first where it is the front of the other
abbrev pub NamesGoByTheirBytes : Type 0
NamesGoByTheirBytes = (a b : List ℕ) → name_cmp a b ≡ slice_cmp nat_cmp a b
