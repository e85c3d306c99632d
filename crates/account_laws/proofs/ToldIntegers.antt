-- The integers that answers tell need no more than 31 bits.
use Rattle.std.proofs.Common.{◌≡◌, ℕ, ◌*◌, ◌<◌, ◌≤◌, ◌^◌, count_by, not, map, List, [], ◌∷◌, Option, Some, None, refl, sym, ap, subst, ◌∙◌, arith}
use Rattle.std.specs.FinMap.{FinMap, empty, entries, get, get-empty, values}
use Rattle.std.specs.List.{AllByRecursion}
use Rattle.std.specs.Ordering.{nat_cmp}
use Rattle.std.specs.Prelude.{IfSome}
use Rattle.std.proofs.Math.Nat.{div-le_of_le-mul}
use Rattle.std.proofs.lemmas.Option.{none-some}
use Rattle.account_laws.proofs.AsTold.{AccountKeeps, all_keep}
use Rattle.account_laws.proofs.AsToldSums.{unfinished_as_told}
use Rattle.account_laws.proofs.RoomsStay.{rooms_stay}
use Rattle.account_laws.proofs.ShownJobs.{count_is}
use Rattle.account_laws.specs.AccountsTold.{AccountTold, account_told}
use Rattle.account_laws.specs.JobsTold.{JobTold, is_over}
use Rattle.account_laws.specs.StandsAsTold.{AreAsTold, IsAsTold}
use Rattle.account_laws.specs.ToldIntegers.{AccountFits, IntegersFit, JobFits}
use Rattle.account_rules.specs.Limits.{last_next_job, most_impressions}
use Rattle.account_rules.specs.Standings.{KeepsToState}
use Rattle.account_rules.specs.declared.job.Job.{Job}
use Rattle.account_rules.specs.declared.job.JobState.{JobState}
use Rattle.account_rules.specs.declared.job.JobState.TheVariants.{Held, Pending, Processing}
use Rattle.account_rules.specs.declared.job.Standing.{Standing}
use Rattle.account_state.proofs.FiniteMaps.{entries_here}
use Rattle.account_state.specs.RoomRules.{IsJobAt, IsRoom}
use Rattle.account_state.specs.Rooms.{RoomValue}

-- what was charged is for no more impressions than a job may have
charged_fits : (state : JobState) (s : Standing) → KeepsToState state s → s.charged ≤ s.rate * most_impressions
charged_fits Held s keeps = omega (arith, keeps.unfinished.charges_nothing)
charged_fits Pending s keeps = omega (arith, keeps.released.unfinished.charges_nothing)
charged_fits Processing s keeps = omega (arith, keeps.released.unfinished.charges_nothing)
charged_fits _ s keeps = omega (arith, keeps.charges_at_most)

job_fits : (number : ℕ) (ticket : JobTold) (room : RoomValue) (job : Job) → IsAsTold number ticket room job → IsJobAt room.next number job → room.next ≤ last_next_job → JobFits number ticket
job_fits number ticket room job is at up =
    let ranges = at.standing.ranges in
    let count = div-le_of_le-mul job.standing.rate (charged_fits job.standing.state job.standing at.standing.by_state) in
    record {
      numbered = omega (arith, at.below_next, up);
      documents = omega (arith, is.count, ranges.documents_at_most);
      impressions = omega (arith, is.impressions, ranges.impressions_at_most);
      counted = omega (arith, count_is ticket.stage job.standing is.stage, count);
      copies = omega (arith, is.copies, ranges.copies_at_most);
    }

fits_there : (number : ℕ) (ticket : JobTold) (room : RoomValue) → IsRoom room → (job : Option Job) → get room.jobs number ≡ job → AreAsTold number (Some ticket) room job → JobFits number ticket
fits_there number ticket room rules None there are = absurd are
fits_there number ticket room rules (Some job) there are = job_fits number ticket room job are (rules.jobs number job there) rules.next_in_range

none_in : (jobs : List (ℕ × JobTold)) → AllByRecursion (λ (job : ℕ × JobTold). get (empty {R = nat_cmp}) job.0 ≡ Some job.1) jobs → jobs ≡ []
none_in [] all = refl
none_in (job ∷ jobs) all = absurd (none-some job.1 (sym (get-empty nat_cmp job.0) ∙ all.0))

none_unfinished : count_by (λ (job : JobTold). not (is_over job.stage)) (values (empty {R = nat_cmp})) < 2 ^ 31
none_unfinished = subst (λ (jobs : List (ℕ × JobTold)). count_by (λ (job : JobTold). not (is_over job.stage)) (map (λ (job : ℕ × JobTold). job.1) jobs) < 2 ^ 31) (sym (none_in (entries (empty {R = nat_cmp})) (entries_here (empty {R = nat_cmp})))) (omega arith)

account_fits : (told : AccountTold) (room : Option RoomValue) → AccountKeeps told room → IfSome room IsRoom → AccountFits told
account_fits told None was rules = record {
  jobs = λ number job is. absurd (none-some job (sym (ap (λ (jobs : FinMap nat_cmp JobTold). get jobs number) was.jobs ∙ get-empty nat_cmp number) ∙ is));
  next = omega (arith, was.next);
  unfinished = subst (λ (jobs : FinMap nat_cmp JobTold). count_by (λ (job : JobTold). not (is_over job.stage)) (values jobs) < 2 ^ 31) (sym was.jobs) none_unfinished;
}
account_fits told (Some room) keeps rules = record {
  jobs = λ number job is. fits_there number job room rules (get room.jobs number) refl (subst (λ (o : Option JobTold). AreAsTold number o room (get room.jobs number)) is (keeps.stands.jobs number));
  next = omega (arith, keeps.stands.next, rules.next_in_range);
  unfinished = omega (arith, unfinished_as_told told room keeps.stands, rules.few_unfinished);
}

pub integers_fit : IntegersFit
integers_fit life room devices is events = account_fits (account_told life) room (all_keep life room devices is).account (rooms_stay life room devices is events).rules
