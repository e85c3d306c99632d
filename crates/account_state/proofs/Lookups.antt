-- A number that no job may have.
use Rattle.std.proofs.Common.{◌≡◌, ℕ, ◌<◌, ◌≤◌, false, arith, Option, Some, None, refl}
use Rattle.std.specs.FinMap.{get}
use Rattle.std.proofs.lemmas.Bool.Decides.{nat_tests}
use Rattle.account_rules.specs.declared.job.Job.{Job}
use Rattle.account_rules.specs.Limits.{may_be_job, last_next_job}
use Rattle.account_state.specs.Rooms.{RoomValue}
use Rattle.account_state.specs.RoomRules.{IsRoom}

-- what no job may be numbered is no job's number
pub none_so_numbered : (room : RoomValue) (number : ℕ) → IsRoom room → may_be_job number ≡ false → get room.jobs number ≡ None
none_so_numbered room number rules isnt = by_case (get room.jobs number) refl
  where
    by_case : (o : Option Job) → get room.jobs number ≡ o → o ≡ None
    by_case None is = refl
    by_case (Some job) is =
        let at = rules.jobs number job is in
        let one : 1 ≤ number = at.from_one in
        let last : number < last_next_job = omega (arith, at.below_next, rules.next_in_range) in
        absurd (grind (arith, nat_tests))
