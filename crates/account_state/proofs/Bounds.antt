-- What the sums of a room can come to.
use Rattle.std.proofs.Common.{ℕ, ◌+◌, ◌≤◌, true, false, cond, nat_le, length, arith}
use Rattle.std.specs.List.{AllByRecursion}
use Rattle.std.proofs.lemmas.List.{length-map}
use Rattle.std.specs.FinMap.{entries, values}
use Rattle.account_rules.specs.JobStates.{is_unfinished}
use Rattle.account_rules.specs.declared.job.Job.{Job}
use Rattle.account_rules.specs.declared.job.JobState.{JobState}
use Rattle.account_rules.specs.declared.job.JobState.TheVariants.{Held, Pending, Processing, Canceled, Aborted, Completed}
use Rattle.account_rules.specs.declared.job.Standing.{Standing}
use Rattle.account_rules.specs.Standings.{KeepsToState}
use Rattle.account_rules.specs.Limits.{last_next_job, most_units}
use Rattle.account_state.specs.Rooms.{RoomValue}
use Rattle.account_state.specs.RoomRules.{IsRoom, IsJobAt}
use Rattle.account_state.specs.Sums.{reserved_in, charged_in, granted_to, pages_by}
use Rattle.account_state.proofs.FiniteMaps.{all_along, entries_here, entries_few, sum_at_most, sum_of_passing}
use Rattle.account_state.proofs.JobMaps.{values_keep}

-- each job reserves at most 2147483647 * 999 * 100 units while it is unfinished, and none after
abbrev most_of_release : ℕ
most_of_release = 214533616335300

-- and is charged at most 2147483647 * 100 units
abbrev most_of_job : ℕ
most_of_job = 214748364700

reserves : (state : JobState) (s : Standing) → KeepsToState state s → s.reserved ≤ cond (is_unfinished state) most_of_release 0
reserves Held s keeps = omega (arith, keeps.reserves_nothing)
reserves Pending s keeps = omega (arith, keeps.released.reserves_at_most)
reserves Processing s keeps = omega (arith, keeps.released.reserves_at_most)
reserves Canceled s keeps = omega (arith, keeps.reserves_nothing)
reserves Aborted s keeps = omega (arith, keeps.reserves_nothing)
reserves Completed s keeps = omega (arith, keeps.reserves_nothing)

charges : (state : JobState) (s : Standing) → s.rate ≤ 100 → KeepsToState state s → s.charged ≤ most_of_job
charges Held s rate keeps = omega (arith, keeps.unfinished.charges_nothing)
charges Pending s rate keeps = omega (arith, keeps.released.unfinished.charges_nothing)
charges Processing s rate keeps = omega (arith, keeps.released.unfinished.charges_nothing)
charges Canceled s rate keeps = omega (arith, keeps.charges_at_most)
charges Aborted s rate keeps = omega (arith, keeps.charges_at_most)
charges Completed s rate keeps = omega (arith, keeps.charges_at_most)

pub values_by_the_rules : (room : RoomValue) → IsRoom room → AllByRecursion (λ (job : Job). IsJobAt room.next job.job job) (values room.jobs)
values_by_the_rules room rules = values_keep (IsJobAt room.next) room.jobs (λ number job here. let at = rules.jobs number job here in (at.numbered, at))

few_jobs : (room : RoomValue) → IsRoom room → length (values room.jobs) + 1 ≤ last_next_job
few_jobs room rules =
    let few : length (entries room.jobs) + 1 ≤ room.next = entries_few room.jobs 1 room.next rules.next_from_one (λ number job here. let at = rules.jobs number job here in (at.from_one, at.below_next)) in
    omega (arith, few, rules.next_in_range, length-map (entries room.jobs) (λ (e : ℕ × Job). e.1))

pub reserved_bound : (room : RoomValue) → IsRoom room → reserved_in room ≤ most_units
reserved_bound room rules =
    let sum = sum_of_passing (λ (job : Job). job.standing.reserved) (λ (job : Job). is_unfinished job.standing.state) most_of_release (values room.jobs)
    (all_along (λ (job : Job) at. reserves job.standing.state job.standing at.standing.by_state) (values room.jobs) (values_by_the_rules room rules)) in
    omega (arith, sum, rules.few_unfinished)

pub charged_bound : (room : RoomValue) → IsRoom room → charged_in room ≤ most_units
charged_bound room rules =
    let sum = sum_at_most (λ (job : Job). job.standing.charged) most_of_job (values room.jobs)
    (all_along (λ (job : Job) at. charges job.standing.state job.standing at.standing.ranges.rate_at_most at.standing.by_state) (values room.jobs) (values_by_the_rules room rules)) in
    omega (arith, sum, few_jobs room rules)

pages_at_most : (month of_month pages : ℕ) → pages ≤ 1000000000 → pages_by month (of_month, pages) ≤ 1000000000
pages_at_most month of_month pages h = (elim (nat_le of_month month) as (λ b. cond b pages 0 ≤ 1000000000) [ true ↦ h | false ↦ omega arith ])

pub granted_bound : (room : RoomValue) (month : ℕ) → IsRoom room → granted_to room month ≤ most_units
granted_bound room month rules =
    let few : length (entries room.grants) + 23640 ≤ 25200 = entries_few room.grants 23640 25200 (omega arith) (λ of_month pages here. let is = rules.grants of_month pages here in (is.from_first, omega (arith, is.to_last))) in
    let sum = sum_at_most (pages_by month) 1000000000 (entries room.grants)
    (all_along (λ (e : ℕ × ℕ) here. pages_at_most month e.0 e.1 (rules.grants e.0 e.1 here).pages_fit) (entries room.grants) (entries_here room.grants)) in
    omega (arith, sum, few)
