-- What each deed makes of the jobs that were told.
use Rattle.std.proofs.Common.{◌≡◌, ℕ, ◌+◌, Bool, true, false, cond, ◌==◌, [], ◌∷◌, ◌++◌, count_by, Option, Some, None, option_map, refl, sym, ap, ◌∙◌, arith}
use Rattle.std.specs.FinMap.{get, insert}
use Rattle.std.specs.List.{fold}
use Rattle.std.specs.Option.{option_map_or}
use Rattle.std.proofs.lemmas.Bool.{eqb-true}
use Rattle.std.proofs.lemmas.List.Sums.{sum_by-cons, sum_by_push}
use Rattle.account_laws.proofs.Afterwards.{inserted}
use Rattle.account_laws.proofs.AsTold.{with_job_there}
use Rattle.account_laws.specs.AccountsTold.{AccountTold, account_told, after_deed, after_exchange, nothing_told, rate_told, with_job}
use Rattle.account_laws.specs.Deeds.{Deed, Made, Brought, Canceled, HeldBack, Freed, Released, Started, Settled, deed_of, moment_of}
use Rattle.account_laws.specs.ItsOwnJob.{is_on}
use Rattle.account_laws.specs.JobsMade.{is_making, jobs_made}
use Rattle.account_laws.specs.JobsTold.{JobTold, job_brought, job_canceled, job_freed, job_held, job_made, job_released, job_settled, job_started}
use Rattle.account_lives.specs.Lives.{Exchange, Life}

-- ---- the jobs

turned_one : (told : AccountTold) (number : ℕ) (change : JobTold → JobTold) (q : ℕ) → get (with_job told number change).jobs q ≡ cond (q == number) (option_map change (get told.jobs q)) (get told.jobs q)
turned_one told number change q = by (get told.jobs number) refl
  where
    same_place : (b : Bool) → (q == number) ≡ b → (o : Option JobTold) → get told.jobs number ≡ o → cond b o (get told.jobs q) ≡ cond b (get told.jobs q) (get told.jobs q)
    same_place true same o there = sym there ∙ ap (get told.jobs) (sym (eqb-true q number same))
    same_place false other o there = refl

    none_place : (b : Bool) → (q == number) ≡ b → get told.jobs number ≡ None → get told.jobs q ≡ cond b (option_map change (get told.jobs q)) (get told.jobs q)
    none_place true same none = let here : get told.jobs q ≡ None = ap (get told.jobs) (eqb-true q number same) ∙ none in here ∙ sym (ap (option_map change) here)
    none_place false other none = refl

    some_place : (b : Bool) (job : JobTold) → (q == number) ≡ b → get told.jobs number ≡ Some job → cond b (Some (change job)) (get told.jobs q) ≡ cond b (option_map change (get told.jobs q)) (get told.jobs q)
    some_place true job same there = ap (option_map change) (sym (ap (get told.jobs) (eqb-true q number same) ∙ there))
    some_place false job other there = refl

    by : (o : Option JobTold) → get told.jobs number ≡ o → get (with_job told number change).jobs q ≡ cond (q == number) (option_map change (get told.jobs q)) (get told.jobs q)
    by None none = ap (λ (o : Option JobTold). get (option_map_or (λ (job : JobTold). record told { jobs = insert told.jobs number (change job) }) o told).jobs q) none ∙ none_place (q == number) refl none
    by (Some job) there =
        ap (λ (t : AccountTold). get t.jobs q) (with_job_there told number change job there)
        ∙ inserted told.jobs number (change job) q
        ∙ some_place (q == number) job refl there

-- what becomes of the job with a number
abbrev pub turned : (now : ℕ) (told : AccountTold) (q : ℕ) → Deed → Option JobTold
turned now told q (Made ask) = cond (q == told.next) (Some (job_made now ask)) (get told.jobs q)
turned now told q (Brought ask) = cond (q == ask.job) (option_map (job_brought ask) (get told.jobs q)) (get told.jobs q)
turned now told q (Canceled number) = cond (q == number) (option_map (job_canceled now) (get told.jobs q)) (get told.jobs q)
turned now told q (HeldBack number) = cond (q == number) (option_map job_held (get told.jobs q)) (get told.jobs q)
turned now told q (Freed number) = cond (q == number) (option_map job_freed (get told.jobs q)) (get told.jobs q)
turned now told q (Released device number impressions) = cond (q == number) (option_map (job_released device (rate_told told device) impressions) (get told.jobs q)) (get told.jobs q)
turned now told q (Started device number) = cond (q == number) (option_map (job_started device now) (get told.jobs q)) (get told.jobs q)
turned now told q (Settled device number impressions failed) = cond (q == number) (option_map (job_settled impressions failed now) (get told.jobs q)) (get told.jobs q)
turned now told q _ = get told.jobs q

pub turned_so : (now : ℕ) (told : AccountTold) (q : ℕ) (deed : Deed) → get (after_deed now told deed).jobs q ≡ turned now told q deed
turned_so now told q (Made ask) = inserted told.jobs told.next (job_made now ask) q
turned_so now told q (Brought ask) = turned_one told ask.job (job_brought ask) q
turned_so now told q (Canceled number) = turned_one told number (job_canceled now) q
turned_so now told q (HeldBack number) = turned_one told number job_held q
turned_so now told q (Freed number) = turned_one told number job_freed q
turned_so now told q (Released device number impressions) = turned_one told number (job_released device (rate_told told device) impressions) q
turned_so now told q (Started device number) = turned_one told number (job_started device now) q
turned_so now told q (Settled device number impressions failed) = turned_one told number (job_settled impressions failed now) q
turned_so now told q _ = refl

-- one that the deed is not on stays
pub others_same : (now : ℕ) (told : AccountTold) (made q : ℕ) (deed : Deed) → told.next ≡ made + 1 → is_on q made deed ≡ false → get (after_deed now told deed).jobs q ≡ get told.jobs q
others_same now told made q deed next isnt = turned_so now told q deed ∙ by deed isnt
  where
    by : (deed : Deed) → is_on q made deed ≡ false → turned now told q deed ≡ get told.jobs q
    by (Made ask) isnt = ap (λ (n : ℕ). cond (q == n) (Some (job_made now ask)) (get told.jobs q)) next ∙ ap (λ (b : Bool). cond b (Some (job_made now ask)) (get told.jobs q)) isnt
    by (Brought ask) isnt = ap (λ (b : Bool). cond b (option_map (job_brought ask) (get told.jobs q)) (get told.jobs q)) isnt
    by (Canceled number) isnt = ap (λ (b : Bool). cond b (option_map (job_canceled now) (get told.jobs q)) (get told.jobs q)) isnt
    by (HeldBack number) isnt = ap (λ (b : Bool). cond b (option_map job_held (get told.jobs q)) (get told.jobs q)) isnt
    by (Freed number) isnt = ap (λ (b : Bool). cond b (option_map job_freed (get told.jobs q)) (get told.jobs q)) isnt
    by (Released device number impressions) isnt = ap (λ (b : Bool). cond b (option_map (job_released device (rate_told told device) impressions) (get told.jobs q)) (get told.jobs q)) isnt
    by (Started device number) isnt = ap (λ (b : Bool). cond b (option_map (job_started device now) (get told.jobs q)) (get told.jobs q)) isnt
    by (Settled device number impressions failed) isnt = ap (λ (b : Bool). cond b (option_map (job_settled impressions failed now) (get told.jobs q)) (get told.jobs q)) isnt
    by _ isnt = refl

-- ---- the next number

next_of_job : (told : AccountTold) (number : ℕ) (change : JobTold → JobTold) → (with_job told number change).next ≡ told.next
next_of_job told number change =
    elim (get told.jobs number) as (λ (o : Option JobTold). (option_map_or (λ (job : JobTold). record told { jobs = insert told.jobs number (change job) }) o told).next ≡ told.next)
    [ None ↦ refl | Some job ↦ refl ]

pub next_after : (now : ℕ) (told : AccountTold) (deed : Deed) → (after_deed now told deed).next ≡ cond (is_making deed) (told.next + 1) told.next
next_after now told (Brought ask) = next_of_job told ask.job (job_brought ask)
next_after now told (Canceled number) = next_of_job told number (job_canceled now)
next_after now told (HeldBack number) = next_of_job told number job_held
next_after now told (Freed number) = next_of_job told number job_freed
next_after now told (Released device number impressions) = next_of_job told number (job_released device (rate_told told device) impressions)
next_after now told (Started device number) = next_of_job told number (job_started device now)
next_after now told (Settled device number impressions failed) = next_of_job told number (job_settled impressions failed now)
next_after now told _ = refl

pub count_push : (p : Exchange → Bool) (past : Life) (x : Exchange) → count_by p (past ++ x ∷ []) ≡ count_by p past + cond (p x) 1 0
count_push p past x = sum_by_push (λ (y : Exchange). cond (p y) 1 0) past x

-- how many jobs an exchange made
abbrev pub made_in : Exchange → ℕ
made_in x = cond (is_making (deed_of x)) 1 0

next_counts : (told : AccountTold) (life : Life) → (fold after_exchange told life).next ≡ told.next + jobs_made life
next_counts told [] = omega arith
next_counts told (x ∷ life) =
    let rest = next_counts (after_exchange told x) life in
    let one = next_after (moment_of x) told (deed_of x) ∙ by (is_making (deed_of x)) in
    let counts = sum_by-cons made_in x life in
    omega (arith, rest, one, counts)
  where
    by : (b : Bool) → cond b (told.next + 1) told.next ≡ told.next + cond b 1 0
    by true = refl
    by false = omega arith

-- it is the number after all jobs that were made
pub next_is : (past : Life) → (account_told past).next ≡ jobs_made past + 1
next_is past = let counts = next_counts nothing_told past in omega (arith, counts)
