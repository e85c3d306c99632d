-- The oldest of lines, of which only the oldest so far were kept.
use Rattle.std.proofs.Common.{◌≡◌, ℕ, zero, suc, Bool, true, false, List, [], ◌∷◌, ◌++◌, take, nat_lt, if◌then◌else◌, Option, None, Some, refl, sym, ap, ◌∙◌, arith}
use Rattle.std.specs.List.{cons_option, fold, filter_map}
use Rattle.std.proofs.lemmas.List.{take-take}
use Rattle.page_overview.specs.Overviews.{by_age, oldest, put_in, put_oldest}
use Rattle.page_overview.specs.ProofOldest.{put_any}
use Rattle.page_overview.specs.declared.oldest.TheConstants.{MOST_OLDEST}

pub fold_then : {A B : Type 0} (f : B → A → B) (b : B) (xs ys : List A) → fold f b (xs ++ ys) ≡ fold f (fold f b xs) ys
fold_then f b [] ys = refl
fold_then f b (x ∷ xs) ys = fold_then f (f b x) xs ys

module _ {L : Type 0} (from : L → ℕ) where
  take_cons : (n : ℕ) (y : L) (ys : List L) → take n (y ∷ take n ys) ≡ take n (y ∷ ys)
  take_cons zero y ys = refl
  take_cons (suc n) y ys = ap (λ (l : List L). y ∷ l) (take-take n (suc n) ys (omega arith))

  -- of one that is put before the first, or behind it
  chosen : (n : ℕ) (before : Bool) (x y : L) (ys : List L) → take n (put_in from (take n ys) x) ≡ take n (put_in from ys x)
      → take (suc n) (if before then x ∷ y ∷ take n ys else y ∷ put_in from (take n ys) x) ≡ take (suc n) (if before then x ∷ y ∷ ys else y ∷ put_in from ys x)
  chosen n true x y ys rest = ap (λ (l : List L). x ∷ l) (take_cons n y ys)
  chosen n false x y ys rest = ap (λ (l : List L). y ∷ l) rest

  -- what comes behind the first so many does not matter to them
  take_put : (n : ℕ) (xs : List L) (x : L) → take n (put_in from (take n xs) x) ≡ take n (put_in from xs x)
  take_put zero xs x = refl
  take_put (suc n) [] x = refl
  take_put (suc n) (y ∷ ys) x = chosen n (nat_lt (from x) (from y)) x y ys (take_put n ys x)

  kept : (sorted more : List L) → fold (put_oldest from) (take MOST_OLDEST sorted) more ≡ take MOST_OLDEST (fold (put_in from) sorted more)
  kept sorted [] = refl
  kept sorted (x ∷ more) = ap (λ (l : List L). fold (put_oldest from) l more) (take_put MOST_OLDEST sorted x) ∙ kept (put_in from sorted x) more

  one : {X : Type 0} (h : X → Option L) (lines : List L) (line : Option L) (jobs : List X) → fold (put_oldest from) (put_any from lines line) (filter_map h jobs) ≡ fold (put_oldest from) lines (cons_option line (filter_map h jobs))
  one h lines None jobs = refl
  one h lines (Some line) jobs = refl

  -- line by line, or job by job
  by_jobs : {X : Type 0} (h : X → Option L) (lines : List L) (jobs : List X) → fold (λ lines job. put_any from lines (h job)) lines jobs ≡ fold (put_oldest from) lines (filter_map h jobs)
  by_jobs h lines [] = refl
  by_jobs h lines (job ∷ jobs) = by_jobs h (put_any from lines (h job)) jobs ∙ one h lines (h job) jobs

  pub oldest_then : (all more : List L) → fold (put_oldest from) (oldest from all) more ≡ oldest from (all ++ more)
  oldest_then all more = kept (by_age from all) more ∙ ap (λ (l : List L). take MOST_OLDEST l) (sym (fold_then (put_in from) [] all more))

  -- of one more list of jobs
  pub oldest_of_jobs : {X : Type 0} (h : X → Option L) (was now all : List L) (jobs : List X) → now ≡ fold (λ lines job. put_any from lines (h job)) was jobs → was ≡ oldest from all → now ≡ oldest from (all ++ filter_map h jobs)
  oldest_of_jobs h was now all jobs is are = is ∙ ap (λ (l : List L). fold (λ lines job. put_any from lines (h job)) l jobs) are ∙ by_jobs h (oldest from all) jobs ∙ oldest_then all (filter_map h jobs)
