-- A room as it is opened keeps the rules.
use Rattle.std.proofs.Common.{◌≡◌, ℕ, ◌≤◌, [], None, refl, sym, ◌∙◌, arith}
use Rattle.std.specs.Ordering.{nat_cmp}
use Rattle.std.specs.FinMap.{get, entries, get-empty, len-empty, len-entries}
use Rattle.std.proofs.lemmas.List.{nil_from_length}
use Rattle.account_rules.specs.Limits.{last_moment}
use Rattle.account_rules.specs.declared.job.Job.{Job}
use Rattle.account_state.specs.Rooms.{place_cmp, empty_room}
use Rattle.account_state.specs.RoomRules.{IsRoom}

pub empty_room_keeps : (now : ℕ) → now ≤ last_moment → IsRoom (empty_room now)
empty_room_keeps now in_range = record {
  opened_in_range = in_range;
  next_from_one = omega arith;
  next_in_range = omega arith;
  jobs = λ number job here. let none : get (empty_room now).jobs number ≡ None = get-empty nat_cmp number in absurd cc;
  few_unfinished = (let none : entries (empty_room now).jobs ≡ [] = nil_from_length (entries (empty_room now).jobs) (sym (len-entries (empty_room now).jobs) ∙ len-empty nat_cmp Job) in rw none (omega arith));
  documents = λ place document here. let none : get (empty_room now).documents place ≡ None = get-empty place_cmp place in absurd cc;
  all_documents = λ job number. (let none : get (empty_room now).documents (job, number) ≡ None = get-empty place_cmp (job, number) in let no_job : get (empty_room now).jobs job ≡ None = get-empty nat_cmp job in rw (none, no_job) refl);
  grants = λ month pages here. let none : get (empty_room now).grants month ≡ None = get-empty nat_cmp month in absurd cc;
}
