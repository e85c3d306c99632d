-- What is counted of jobs is within the bounds.
use Rattle.std.proofs.Common.{◌≡◌, ℕ, ◌≤◌, cond, ◌&&◌, nat_le, Some, None, IsTrue, ap, arith}
use Rattle.std.proofs.lemmas.Bool.Decides.{nat_tests}
use Rattle.account_rules.specs.declared.job.JobState.{JobState}
use Rattle.account_state.specs.declared.tally.Tally.{Tally}
use Rattle.std.specs.FinMap.{values}
use Rattle.account_rules.specs.Limits.{most_unfinished, most_units}
use Rattle.account_state.specs.Rooms.{RoomValue}
use Rattle.account_state.specs.RoomRules.{IsRoom, unfinished_count}
use Rattle.account_state.specs.Sums.{reserved_in, charged_in}
use Rattle.account_state.proofs.Bounds.{reserved_bound, charged_bound}
use Rattle.account_state.specs.Tallies.{tally_of, counted, counted_in_bounds, is_in_bounds}

pub three_lower : (a b c x y z : ℕ) → a ≤ x → b ≤ y → c ≤ z →
    IsTrue (nat_le x most_unfinished && nat_le y most_units && nat_le z most_units) → IsTrue (nat_le a most_unfinished && nat_le b most_units && nat_le c most_units)
three_lower a b c x y z h i j within = grind (arith, nat_tests)

pub counted_some : (tally : Tally) (state : JobState) (reserved charged : ℕ) → IsTrue (is_in_bounds (counted tally state reserved charged)) → counted_in_bounds tally state reserved charged ≡ Some (counted tally state reserved charged)
counted_some tally state reserved charged within = ap (λ b. cond b (Some (counted tally state reserved charged)) None) within

three_within : (a b c : ℕ) → a ≤ most_unfinished → b ≤ most_units → c ≤ most_units → IsTrue (nat_le a most_unfinished && nat_le b most_units && nat_le c most_units)
three_within a b c h i j = grind (arith, nat_tests)

-- what is counted of a room's jobs is within the bounds
pub room_in_bounds : (room : RoomValue) → IsRoom room → IsTrue (is_in_bounds (tally_of (values room.jobs)))
room_in_bounds room rules = three_within (unfinished_count room) (reserved_in room) (charged_in room) rules.few_unfinished (reserved_bound room rules) (charged_bound room rules)
