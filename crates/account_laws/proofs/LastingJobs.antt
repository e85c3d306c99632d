-- A job stays for good, with its maker and the moment that it was made at.
use Rattle.std.proofs.Common.{◌≡◌, ◌≢◌, ℕ, ◌<◌, ◌==◌, Bool, true, false, cond, [], ◌∷◌, ◌++◌, append-nil, append_assoc, Option, Some, None, refl, sym, ap, subst, ◌∙◌, arith, option_map}
use Rattle.std.specs.FinMap.{FinMap, get, get-empty}
use Rattle.std.specs.Ordering.{nat_cmp}
use Rattle.std.proofs.lemmas.Bool.{ne_eqb}
use Rattle.std.proofs.lemmas.Option.{none-some}
use Rattle.account_laws.proofs.AsTold.{AccountKeeps, Keeps, all_keep, told_more}
use Rattle.account_laws.proofs.DeedTurns.{turned, turned_so}
use Rattle.account_lives.proofs.LifeLemmas.{front_of_life}
use Rattle.account_laws.specs.AccountsTold.{AccountTold, account_told, after_deed, rate_told}
use Rattle.account_laws.specs.Deeds.{Deed, Made, Brought, Canceled, HeldBack, Freed, Released, Started, Settled, deed_of, moment_of}
use Rattle.account_laws.specs.JobsTold.{JobTold, job_brought, job_canceled, job_freed, job_held, job_made, job_released, job_settled, job_started}
use Rattle.account_laws.specs.LastingJobs.{HasStayed, JobsStay}
use Rattle.account_lives.specs.Lives.{Exchange, IsLife, Life}
use Rattle.account_laws.specs.StandsAsTold.{AreAsTold, WasNotOpened}
use Rattle.account_rules.specs.Devices.{Devices}
use Rattle.account_rules.specs.declared.job.Job.{Job}
use Rattle.account_state.specs.Rooms.{RoomValue}

-- ---- a job that was told of before

-- a job that was told of is in the room, and has a number below the next
is_below : (told : AccountTold) (room : RoomValue) → Keeps told room → (number : ℕ) (ticket : JobTold) → get told.jobs number ≡ Some ticket → number < told.next
is_below told room keeps number ticket is = by (get room.jobs number) refl (subst (λ (o : Option JobTold). AreAsTold number o room (get room.jobs number)) is (keeps.stands.jobs number))
  where
    by : (job : Option Job) → get room.jobs number ≡ job → AreAsTold number (Some ticket) room job → number < told.next
    by None there are = absurd are
    by (Some job) there are = let below = keeps.below number job there in let next = keeps.stands.next in omega arith

none_told : (told : AccountTold) → WasNotOpened told → (number : ℕ) (ticket : JobTold) → get told.jobs number ≡ Some ticket → ⊥
none_told told was number ticket is = none-some ticket (sym (ap (λ (jobs : FinMap nat_cmp JobTold). get jobs number) was.jobs ∙ get-empty nat_cmp number) ∙ is)

-- ---- makers

has_lasted : (number : ℕ) (ticket : JobTold) (told : AccountTold) → get told.jobs number ≡ Some ticket → HasStayed number ticket told
has_lasted number ticket told is = record { later = ticket; is_there = is; maker = refl; made = refl }

goes_on : (number : ℕ) (ticket later : JobTold) (told : AccountTold) → HasStayed number later told → later.maker ≡ ticket.maker → later.made ≡ ticket.made → HasStayed number ticket told
goes_on number ticket later told lasted maker made = record { later = lasted.later; is_there = lasted.is_there; maker = lasted.maker ∙ maker; made = lasted.made ∙ made }

module _ (told : AccountTold) (number : ℕ) (ticket : JobTold) (is : get told.jobs number ≡ Some ticket) (old : number ≢ told.next) (now : ℕ) where
  -- where a deed is on the job or is not
  kept : (after : AccountTold) (on : Bool) (change : JobTold → JobTold) → ((job : JobTold) → ((change job).maker ≡ job.maker) × ((change job).made ≡ job.made))
      → get after.jobs number ≡ cond on (option_map change (get told.jobs number)) (get told.jobs number) → HasStayed number ticket after
  kept after true change same so = record { later = change ticket; is_there = so ∙ ap (option_map change) is; maker = (same ticket).0; made = (same ticket).1 }
  kept after false change same so = has_lasted number ticket after (so ∙ is)

  lasts_by : (deed : Deed) → get (after_deed now told deed).jobs number ≡ turned now told number deed → HasStayed number ticket (after_deed now told deed)
  lasts_by (Made ask) so = has_lasted number ticket (after_deed now told (Made ask)) (so ∙ ap (λ (b : Bool). cond b (Some (job_made now ask)) (get told.jobs number)) (ne_eqb number told.next old) ∙ is)
  lasts_by (Brought ask) so = kept (after_deed now told (Brought ask)) (number == ask.job) (job_brought ask) (λ job. (refl, refl)) so
  lasts_by (Canceled moved) so = kept (after_deed now told (Canceled moved)) (number == moved) (job_canceled now) (λ job. (refl, refl)) so
  lasts_by (HeldBack moved) so = kept (after_deed now told (HeldBack moved)) (number == moved) job_held (λ job. (refl, refl)) so
  lasts_by (Freed moved) so = kept (after_deed now told (Freed moved)) (number == moved) job_freed (λ job. (refl, refl)) so
  lasts_by (Released device moved impressions) so = kept (after_deed now told (Released device moved impressions)) (number == moved) (job_released device (rate_told told device) impressions) (λ job. (refl, refl)) so
  lasts_by (Started device moved) so = kept (after_deed now told (Started device moved)) (number == moved) (job_started device now) (λ job. (refl, refl)) so
  lasts_by (Settled device moved impressions failed) so = kept (after_deed now told (Settled device moved impressions failed)) (number == moved) (job_settled impressions failed now) (λ job. (refl, refl)) so
  lasts_by deed so = has_lasted number ticket (after_deed now told deed) (so ∙ is)

  lasts : (deed : Deed) → HasStayed number ticket (after_deed now told deed)
  lasts deed = lasts_by deed (turned_so now told number deed)

is_old_in : (told : AccountTold) (room : Option RoomValue) → AccountKeeps told room → (number : ℕ) (ticket : JobTold) → get told.jobs number ≡ Some ticket → number ≢ told.next
is_old_in told None was number ticket is same = none_told told was number ticket is
is_old_in told (Some room) keeps number ticket is same = let below = is_below told room keeps number ticket is in omega arith

module _ (life : Life) (room : Option RoomValue) (devices : Devices) (is_life : IsLife life room devices) (number : ℕ) where
  lasts_so : (past later : Life) (x : Exchange) → life ≡ past ++ x ∷ later → (ticket : JobTold) → get (account_told past).jobs number ≡ Some ticket → HasStayed number ticket (account_told (past ++ x ∷ []))
  lasts_so past later x here ticket is =
      let front = front_of_life life past later x room devices is_life here in
      let all = all_keep past front.room front.devices front.first in
      subst (HasStayed number ticket) (sym (told_more past x)) (lasts (account_told past) number ticket is (is_old_in (account_told past) front.room all.account number ticket is) (moment_of x) (deed_of x))

  last_so : (more past : Life) → life ≡ past ++ more → (ticket : JobTold) → get (account_told past).jobs number ≡ Some ticket → HasStayed number ticket (account_told life)
  last_so [] past here ticket is = has_lasted number ticket (account_told life) (ap (λ (l : Life). get (account_told l).jobs number) (here ∙ append-nil past) ∙ is)
  last_so (x ∷ more) past here ticket is =
      let next = lasts_so past more x here ticket is in
      goes_on number ticket next.later (account_told life) (last_so more (past ++ x ∷ []) (here ∙ sym (append_assoc past (x ∷ []) more)) next.later next.is_there) next.maker next.made

pub jobs_stay : JobsStay
jobs_stay life room devices is past more number ticket here there = last_so life room devices is number more past here ticket there
