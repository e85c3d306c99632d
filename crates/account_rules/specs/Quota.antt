-- Rule: What a release needs of the quota, and what is left of it, in units (all this project's
-- own). An impression at rate 1 is one unit.
use Rattle.std.specs.Prelude.{ℕ, ◌*◌, ℤ, pos, negsuc, neg_ℤ, ◌-ℤ◌, Bool, true, nat_lt}
use Rattle.account_rules.specs.Limits.{most_units}

-- `copies` of a document of so many impressions, on a device with this rate
abbrev pub need_of : (impressions copies rate : ℕ) → ℕ
need_of impressions copies rate = impressions * copies * rate

-- negative where more was charged than granted
abbrev pub left_of : (granted reserved charged : ℤ) → ℤ
left_of granted reserved charged = (granted -ℤ reserved) -ℤ charged

-- what is left lies between these two, as each sum lies below its bound
abbrev pub least_left : ℤ
least_left = neg_ℤ (pos (2 * most_units))

abbrev pub most_left : ℤ
most_left = pos most_units

-- more is needed than what is left
abbrev pub exceeds : (need : ℕ) (left : ℤ) → Bool
exceeds need (pos left) = nat_lt left need
exceeds need (negsuc _) = true
