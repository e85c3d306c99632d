-- A job is handed out once at most, and settled once at most.
use Rattle.std.proofs.Common.{◌≡◌, ℕ, ◌+◌, ◌≤◌, Bool, true, false, cond, ◌==◌, List, [], ◌∷◌, ◌++◌, count_by, Option, Some, None, option_map, IsSomeAnd, refl, sym, ap, subst, ◌∙◌, arith}
use Rattle.std.specs.FinMap.{get, get-empty}
use Rattle.std.specs.Ordering.{nat_cmp}
use Rattle.std.proofs.lemmas.Bool.{eqb-true, true≢false}
use Rattle.account_laws.proofs.AsTold.{told_more}
use Rattle.account_laws.proofs.DeedFinds.{CanBeStarted, Finds, IsFreeFor, IsPrinted, grows}
use Rattle.account_laws.proofs.DeedTurns.{count_push, turned, turned_so}
use Rattle.account_laws.specs.AccountsTold.{AccountTold, account_told}
use Rattle.account_laws.specs.Deeds.{Deed, Made, Brought, Canceled, HeldBack, Freed, Released, Started, Settled, deed_of, moment_of}
use Rattle.account_laws.specs.HandedOnce as law
use Rattle.account_laws.specs.HandedOnce.{hands_out, settles, SettledOnceAtMost}
use Rattle.account_laws.specs.JobsTold.{JobTold, Stage, Waits, IsFree, Prints, HasEnded, job_started, stage_canceled, stage_held, stage_released, stage_settled, stage_started}
use Rattle.account_lives.specs.Lives.{Exchange, Life, OfLives}

-- how often something can still happen to a job, by its stage: it never grows, whatever is done
pub record NeverGrows (left : Stage → ℕ) : Type 0 where
  pub one : left Waits ≤ 1
  pub canceled : (now : ℕ) (stage : Stage) → left (stage_canceled now stage) ≤ left stage
  pub held : (stage : Stage) → left (stage_held stage) ≤ left stage
  pub released : (device : Option (List ℕ)) (rate units : ℕ) (stage : Stage) → left (stage_released device rate units stage) ≤ left stage
  pub started : (device : List ℕ) (now : ℕ) (stage : Stage) → left (stage_started device now stage) ≤ left stage
  pub settled : (count : ℕ) (failed : Bool) (now : ℕ) (stage : Stage) → left (stage_settled count failed now stage) ≤ left stage

abbrev left_to : (left : Stage → ℕ) → Option JobTold → ℕ
left_to left None = 1
left_to left (Some job) = left job.stage

module _ (left : Stage → ℕ) (never : NeverGrows left) (now : ℕ) (told : AccountTold) (x : Exchange) (q : ℕ) where
  new_at_most : (b : Bool) (job : JobTold) (o : Option JobTold) → left job.stage ≤ 1 → (b ≡ true → o ≡ None) → left_to left (cond b (Some job) o) ≤ left_to left o
  new_at_most true job o one none = subst (λ (o : Option JobTold). left job.stage ≤ left_to left o) (sym (none refl)) one
  new_at_most false job o one none = omega arith

  changed_at_most : (b : Bool) (change : JobTold → JobTold) (o : Option JobTold) → ((job : JobTold) → left (change job).stage ≤ left job.stage) → left_to left (cond b (option_map change o) o) ≤ left_to left o
  changed_at_most true change None falls = omega arith
  changed_at_most true change (Some job) falls = falls job
  changed_at_most false change o falls = omega arith

  none_new : get told.jobs told.next ≡ None → (q == told.next) ≡ true → get told.jobs q ≡ None
  none_new none same = ap (get told.jobs) (eqb-true q told.next same) ∙ none

  turned_at_most : (deed : Deed) → Finds told x deed → left_to left (turned now told q deed) ≤ left_to left (get told.jobs q)
  turned_at_most (Made ask) finds = new_at_most (q == told.next) _ (get told.jobs q) never.one (none_new finds)
  turned_at_most (Brought ask) finds = changed_at_most (q == ask.job) _ (get told.jobs q) (λ job. omega arith)
  turned_at_most (Canceled number) finds = changed_at_most (q == number) _ (get told.jobs q) (λ job. never.canceled now job.stage)
  turned_at_most (HeldBack number) finds = changed_at_most (q == number) _ (get told.jobs q) (λ job. never.held job.stage)
  turned_at_most (Freed number) finds = changed_at_most (q == number) _ (get told.jobs q) (λ job. never.released _ _ _ job.stage)
  turned_at_most (Released device number impressions) finds = changed_at_most (q == number) _ (get told.jobs q) (λ job. never.released _ _ _ job.stage)
  turned_at_most (Started device number) finds = changed_at_most (q == number) _ (get told.jobs q) (λ job. never.started device now job.stage)
  turned_at_most (Settled device number impressions failed) finds = changed_at_most (q == number) _ (get told.jobs q) (λ job. never.settled impressions failed now job.stage)
  turned_at_most _ finds = omega arith

  -- it is one less where it happens
  abbrev FallsWhere : (Deed → Bool) → Deed → Type 0
  FallsWhere happens deed = happens deed ≡ true → left_to left (turned now told q deed) + 1 ≤ left_to left (get told.jobs q)

  fewer : (happens : Deed → Bool) (deed : Deed) → Finds told x deed → FallsWhere happens deed → left_to left (turned now told q deed) + cond (happens deed) 1 0 ≤ left_to left (get told.jobs q)
  fewer happens deed finds falls = by (happens deed) refl
    where
      by : (b : Bool) → happens deed ≡ b → left_to left (turned now told q deed) + cond b 1 0 ≤ left_to left (get told.jobs q)
      by true is = falls is
      by false isnt = let most = turned_at_most deed finds in omega (arith, most)

-- so it happens once at most
module _ (left : Stage → ℕ) (never : NeverGrows left) (happens : ℕ → Deed → Bool) (falls : (now : ℕ) (told : AccountTold) (x : Exchange) (q : ℕ) (deed : Deed) → Finds told x deed → FallsWhere left never now told x q (happens q) deed) where
  abbrev IsFew : ℕ → Life → Type 0
  IsFew q past = count_by (λ (x : Exchange). happens q (deed_of x)) past + left_to left (get (account_told past).jobs q) ≤ 1

  few_more : (q : ℕ) (past : Life) (x : Exchange) → Finds (account_told past) x (deed_of x) → IsFew q past → IsFew q (past ++ x ∷ [])
  few_more q past x finds few =
      let counted = count_push (λ (x : Exchange). happens q (deed_of x)) past x in
      let now = ap (left_to left) (ap (λ (told : AccountTold). get told.jobs q) (told_more past x) ∙ turned_so (moment_of x) (account_told past) q (deed_of x)) in
      let less = fewer left never (moment_of x) (account_told past) x q (happens q) (deed_of x) finds (falls (moment_of x) (account_told past) x q (deed_of x) finds) in
      omega (arith, counted, now, less)

  pub once : OfLives (λ life. (q : ℕ) → count_by (λ (x : Exchange). happens q (deed_of x)) life ≤ 1)
  once life room devices is q = let few = grows (IsFew q) (few_more q) (let none = ap (left_to left) (get-empty nat_cmp q) in omega (arith, none)) life room devices is in omega (arith, few)

-- ---- handed out

abbrev to_start : Stage → ℕ
to_start Waits = 1
to_start (IsFree device rate units) = 1
to_start (Prints device rate units since is_canceled) = 0
to_start (HasEnded how count units since at) = 0

starts_never_grow : NeverGrows to_start
starts_never_grow = record {
  one = omega arith;
  canceled = λ now stage. elim stage as (λ (s : Stage). to_start (stage_canceled now s) ≤ to_start s) [ Waits ↦ omega arith | IsFree device rate units ↦ omega arith | Prints device rate units since is_canceled ↦ omega arith | HasEnded how count units since at ↦ omega arith ];
  held = λ stage. elim stage as (λ (s : Stage). to_start (stage_held s) ≤ to_start s) [ Waits ↦ omega arith | IsFree device rate units ↦ omega arith | Prints device rate units since is_canceled ↦ omega arith | HasEnded how count units since at ↦ omega arith ];
  released = λ for rate units stage. elim stage as (λ (s : Stage). to_start (stage_released for rate units s) ≤ to_start s) [ Waits ↦ omega arith | IsFree device rate units ↦ omega arith | Prints device rate units since is_canceled ↦ omega arith | HasEnded how count units since at ↦ omega arith ];
  started = λ by now stage. elim stage as (λ (s : Stage). to_start (stage_started by now s) ≤ to_start s) [ Waits ↦ omega arith | IsFree device rate units ↦ omega arith | Prints device rate units since is_canceled ↦ omega arith | HasEnded how count units since at ↦ omega arith ];
  settled = λ count failed now stage. elim stage as (λ (s : Stage). to_start (stage_settled count failed now s) ≤ to_start s) [ Waits ↦ omega arith | IsFree device rate units ↦ omega arith | Prints device rate units since is_canceled ↦ omega arith | HasEnded how counted units since at ↦ omega arith ];
}

start_takes_one : (device : List ℕ) (now : ℕ) (stage : Stage) → IsFreeFor device stage → to_start (stage_started device now stage) + 1 ≤ to_start stage
start_takes_one device now (IsFree for rate units) free = omega arith
start_takes_one device now _ free = absurd free

starts_fall : (now : ℕ) (told : AccountTold) (x : Exchange) (q : ℕ) (deed : Deed) → Finds told x deed → hands_out q deed ≡ true → left_to to_start (turned now told q deed) + 1 ≤ left_to to_start (get told.jobs q)
starts_fall now told x q (Started device number) finds is =
    subst (λ (b : Bool). left_to to_start (cond b (option_map (job_started device now) (get told.jobs q)) (get told.jobs q)) + 1 ≤ left_to to_start (get told.jobs q)) (sym is)
    (by (get told.jobs q) (subst (λ (n : ℕ). IsSomeAnd (get told.jobs n) (CanBeStarted device number x.1)) (sym (eqb-true q number is)) finds.1))
  where
    by : (o : Option JobTold) → IsSomeAnd o (CanBeStarted device number x.1) → left_to to_start (option_map (job_started device now) o) + 1 ≤ left_to to_start o
    by None can = absurd can
    by (Some job) can = start_takes_one device now job.stage can.is_free
starts_fall now told x q _ finds is = absurd (true≢false (sym is))

pub handed_once : law.HandedOnce
handed_once = once to_start starts_never_grow hands_out starts_fall

-- ---- settled

abbrev to_settle : Stage → ℕ
to_settle Waits = 1
to_settle (IsFree device rate units) = 1
to_settle (Prints device rate units since is_canceled) = 1
to_settle (HasEnded how count units since at) = 0

settlements_never_grow : NeverGrows to_settle
settlements_never_grow = record {
  one = omega arith;
  canceled = λ now stage. elim stage as (λ (s : Stage). to_settle (stage_canceled now s) ≤ to_settle s) [ Waits ↦ omega arith | IsFree device rate units ↦ omega arith | Prints device rate units since is_canceled ↦ omega arith | HasEnded how count units since at ↦ omega arith ];
  held = λ stage. elim stage as (λ (s : Stage). to_settle (stage_held s) ≤ to_settle s) [ Waits ↦ omega arith | IsFree device rate units ↦ omega arith | Prints device rate units since is_canceled ↦ omega arith | HasEnded how count units since at ↦ omega arith ];
  released = λ for rate units stage. elim stage as (λ (s : Stage). to_settle (stage_released for rate units s) ≤ to_settle s) [ Waits ↦ omega arith | IsFree device rate units ↦ omega arith | Prints device rate units since is_canceled ↦ omega arith | HasEnded how count units since at ↦ omega arith ];
  started = λ by now stage. elim stage as (λ (s : Stage). to_settle (stage_started by now s) ≤ to_settle s) [ Waits ↦ omega arith | IsFree device rate units ↦ omega arith | Prints device rate units since is_canceled ↦ omega arith | HasEnded how count units since at ↦ omega arith ];
  settled = λ count failed now stage. elim stage as (λ (s : Stage). to_settle (stage_settled count failed now s) ≤ to_settle s) [ Waits ↦ omega arith | IsFree device rate units ↦ omega arith | Prints device rate units since is_canceled ↦ omega arith | HasEnded how counted units since at ↦ omega arith ];
}

settlement_takes_one : (count : ℕ) (failed : Bool) (now : ℕ) (stage : Stage) → IsPrinted stage → to_settle (stage_settled count failed now stage) + 1 ≤ to_settle stage
settlement_takes_one count failed now (Prints by rate units since is_canceled) printed = omega arith
settlement_takes_one count failed now _ printed = absurd printed

settlements_fall : (now : ℕ) (told : AccountTold) (x : Exchange) (q : ℕ) (deed : Deed) → Finds told x deed → settles q deed ≡ true → left_to to_settle (turned now told q deed) + 1 ≤ left_to to_settle (get told.jobs q)
settlements_fall now told x q (Settled device number impressions failed) finds is =
    subst (λ (b : Bool). left_to to_settle (cond b (option_map (λ (job : JobTold). record job { stage = stage_settled impressions failed now job.stage }) (get told.jobs q)) (get told.jobs q)) + 1 ≤ left_to to_settle (get told.jobs q)) (sym is)
    (by (get told.jobs q) (subst (λ (n : ℕ). IsSomeAnd (get told.jobs n) (λ (job : JobTold). IsPrinted job.stage)) (sym (eqb-true q number is)) finds))
  where
    by : (o : Option JobTold) → IsSomeAnd o (λ (job : JobTold). IsPrinted job.stage) → left_to to_settle (option_map (λ (job : JobTold). record job { stage = stage_settled impressions failed now job.stage }) o) + 1 ≤ left_to to_settle o
    by None can = absurd can
    by (Some job) can = settlement_takes_one impressions failed now job.stage can
settlements_fall now told x q _ finds is = absurd (true≢false (sym is))

pub settled_once : SettledOnceAtMost
settled_once = once to_settle settlements_never_grow settles settlements_fall
