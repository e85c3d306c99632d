-- That the quota is the last that a release is refused for.
use Rattle.std.proofs.Common.{◌≡◌, ℕ, ◌*◌, ◌≤◌, ℤ, pos, negsuc, ◌≤ℤ◌, false, arith}
use Rattle.std.proofs.lemmas.Bool.{le-ltb}
use Rattle.std.proofs.lemmas.Int.{ints}
use Rattle.std.proofs.lemmas.Nat.{mul-le}
use Rattle.account_rules.specs.Limits.{most_impressions, most_copies, most_rate}
use Rattle.account_rules.specs.Quota.{need_of, exceeds}
use Rattle.account_rules.specs.StateLaws.{RefusesNothing, QuotaComesLast}

not_above : (need most enough : ℕ) → need ≤ most → pos most ≤ℤ pos enough → exceeds need (pos enough) ≡ false
not_above need most enough within refuses = le-ltb enough need (omega (arith, ints))

-- what a release can need is never more than what refuses nothing
pub enough_left : (impressions copies rate : ℕ) (enough : ℤ) → impressions ≤ most_impressions → copies ≤ most_copies → rate ≤ most_rate → RefusesNothing enough → exceeds (need_of impressions copies rate) enough ≡ false
enough_left impressions copies rate (pos enough) i c r refuses =
    not_above (impressions * copies * rate) (most_impressions * most_copies * most_rate) enough (mul-le (impressions * copies) rate (most_impressions * most_copies) most_rate (mul-le impressions copies most_impressions most_copies i c) r) refuses
enough_left impressions copies rate (negsuc enough) i c r refuses = absurd (omega (arith, ints))

pub quota_is_last : QuotaComesLast
quota_is_last = record {
  of_the_owner = λ s has_password left enough is refuses. grind (arith, enough_left);
  at_a_station = λ s kept device given impressions rate left enough is i r refuses. grind (arith, enough_left);
}
