-- What the jobs of an account come to, and how it moves with the row of a job.
use Rattle.std.proofs.Common.{◌≡◌, ◌≢◌, ◌==◌, ℕ, ◌+◌, ℤ, pos, negsuc, Bool, true, false, cond, List, [], ◌∷◌, drop, codes, map, Option, Some, None, option_map, refl, sym, ap, subst, ◌∙◌, arith}
use Rattle.std.specs.List.{sum_by}
use Rattle.std.specs.List.Sorted.{IsPermutation}
use Rattle.std.specs.Ordering.{nat_cmp}
use Rattle.std.specs.Cmp.{nat_cmp_total, unsigned_tied}
use Rattle.std.specs.FinMap.{FinMap, entries, get, insert, remove, values, get-insert, get-remove, same_map, nat_cmp-IsAntisymmetric}
use Rattle.std.proofs.lemmas.Bool.Decides.{nat_tests}
use Rattle.sqlite_value.specs.declared.value.Value.TheVariants.{Int, Text}
use Rattle.sqlite_value.specs.Order.{Row, column}
use Rattle.sqlite_trees.proofs.ListLemmas.{map-map}
use Rattle.sqlite.specs.Effect.{Database}
use Rattle.account_rules.specs.declared.account.Account.{Account}
use Rattle.account_rules.specs.declared.job.Document.{Document}
use Rattle.account_rules.specs.declared.job.Job.{Job}
use Rattle.account_rules.specs.declared.job.Standing.{Standing}
use Rattle.account_state.proofs.KeptJobs.{sum_of_new, sum_of_other}
use Rattle.rows_tables.specs.Accounts.{account_at, job_at, under}
use Rattle.rows_tables.specs.Cells.{account_cells, number, job_cells}
use Rattle.rows_tables.specs.Keyed.{HasSchema, SetsRow}
use Rattle.rows_tables.specs.Tables.{job as job_table}
use Rattle.rows_tables.proofs.KeyedRows.{integer_at}
use Rattle.rows_tables.proofs.KeyedTables.{job_in, job_key}
use Rattle.rows_tables.proofs.MapRows.{rows_of_map}
use Rattle.rows_tables.proofs.ReadBackLemmas.{integer_in, natural_in}
use Rattle.rows_statements.specs.JobSums.{HoldsJobs, IsSum, MovesSum, charges, reserves}
use Rattle.rows_statements.specs.Rows.{AddsJob, EndsJob, Restands}
use Rattle.rows_statements.specs.SoundRows.{job_rows}
use Rattle.rows_statements.proofs.KeyTests.{is_at_number, number_met, number_here}
use Rattle.rows_statements.proofs.LeftAlone.{account_row_kept, account_row_stays, job_row_stays, row_kept}
use Rattle.rows_statements.proofs.MapsSet.{set_under}

-- the rows of an account's jobs are those of these jobs
pub rows_of_these : (name : List ℕ) (db : Database) → HasSchema db → (jobs : FinMap nat_cmp Job) → HoldsJobs db name jobs → IsPermutation (job_rows db name) (map (job_cells name) (values jobs))
rows_of_these name db has jobs held =
    subst (IsPermutation (job_rows db name)) (sym (map-map (job_cells name) (λ (e : ℕ × Job). e.1) (entries jobs)))
    (rows_of_map (Text name ∷ []) job_in (job_key name) (refl, tt) db has (λ r there. integer_at job_in db has r there 1 (codes "job") refl) jobs (λ _ it. job_cells name it) (λ k it is. ap number (held.numbered k it is)) held.rows)

-- where no row of a job changed it is as before
pub same_sum : (of : Job → ℕ) (name : List ℕ) (old new : Database) → ((n : ℤ) → job_at new name n ≡ job_at old name n) → (units : ℕ) → IsSum of old name units → IsSum of new name units
same_sum of name old new same units right jobs held = right jobs (record { rows = λ n. sym (same n) ∙ held.rows n; numbered = held.numbered })

-- which the cells of a job tell
abbrev pub IsShown : (of : Job → ℕ) (name : List ℕ) → Type 0
IsShown of name = (one other : Job) → job_cells name one ≡ job_cells name other → of one ≡ of other

pub reserves_shown : (name : List ℕ) → IsShown reserves name
reserves_shown name one other cells = ap (λ r. natural_in (integer_in (column r 9))) cells

pub charges_shown : (name : List ℕ) → IsShown charges name
charges_shown name one other cells = ap (λ r. natural_in (integer_in (column r 10))) cells

met_is : (k n : ℕ) → (k == n) ≡ true → k ≡ n
met_is k n e = grind (arith, nat_tests)

same_number : (k : ℕ) → (k == k) ≡ true
same_number k = grind (arith, nat_tests)

other_number : (k n : ℕ) → k ≢ n → (n == k) ≡ false
other_number k n apart = grind (arith, nat_tests)

-- ---- a row that is set

module _ (of : Job → ℕ) (name : List ℕ) (shown : IsShown of name) (old new : Database) (it : Job) (sets : SetsRow job_table (job_cells name it) old new) where
  abbrev test : ℤ → Bool
  test z = is_at_number name (pos it.job) (drop 2 (job_cells name it)) name z

  met : (z : ℤ) → test z ≡ true → pos it.job ≡ z
  met z is = (number_met name (pos it.job) (drop 2 (job_cells name it)) name z is).1

  here : (z : ℤ) → pos it.job ≡ z → test z ≡ true
  here z e = subst (λ y. test y ≡ true) e (number_here name (pos it.job) (drop 2 (job_cells name it)))

  now_there : job_at new name (pos it.job) ≡ Some (job_cells name it)
  now_there = sets.rows (Text name ∷ Int (pos it.job) ∷ []) ∙ ap (λ b. cond b (Some (job_cells name it)) (job_at old name (pos it.job))) (here (pos it.job) refl)

  found_there : (found : Option Job) → Some (job_cells name it) ≡ option_map (job_cells name) found → (w : Job) × (found ≡ Some w) × (of w ≡ of it)
  found_there None e = absurd (let no = e in cc)
  found_there (Some w) e = let cells : job_cells name it ≡ job_cells name w = cc in (w, refl, sym (shown it w cells))

  -- in the place of another
  module _ (was : Job) (same : was.job ≡ it.job) (there : job_at old name (pos it.job) ≡ Some (job_cells name was)) where
    flipped : (b : Bool) (o n : Option Row) → (b ≡ true → o ≡ Some (job_cells name was)) → n ≡ cond b (Some (job_cells name it)) o → o ≡ cond b (Some (job_cells name was)) n
    flipped true o n is_there is = is_there refl
    flipped false o n is_there is = sym is

    number_of : (jobs : FinMap nat_cmp Job) → HoldsJobs new name jobs → (b : Bool) (k : ℕ) (x : Job) → (b ≡ true → k ≡ it.job) → cond b (Some was) (get jobs k) ≡ Some x → x.job ≡ k
    number_of jobs held true k x is e = let one : was ≡ x = cc in ap (λ (j : Job). j.job) (sym one) ∙ same ∙ sym (is refl)
    number_of jobs held false k x is e = held.numbered k x e

    before : (jobs : FinMap nat_cmp Job) → HoldsJobs new name jobs → HoldsJobs old name (insert jobs it.job was)
    before jobs held = record {
      rows = λ z. set_under (λ _ (job : Job). job_cells name job) jobs it.job was z (test z) (job_at new name z) (job_at old name z) (met z) (here z) (held.rows z)
          (flipped (test z) (job_at old name z) (job_at new name z) (λ is. subst (λ y. job_at old name y ≡ Some (job_cells name was)) (met z is) there) (sets.rows (Text name ∷ Int z ∷ [])));
      numbered = λ k x is. number_of jobs held (k == it.job) k x (met_is k it.job) (ap (λ b. cond b (Some was) (get jobs k)) (sym (unsigned_tied k it.job)) ∙ sym (get-insert nat_cmp_total jobs it.job was k) ∙ is);
    }

    pub moves_sum : MovesSum of name (of was) (of it) old new
    moves_sum units right jobs held =
        let e = right (insert jobs it.job was) (before jobs held) in
        let w = found_there (get jobs it.job) (sym now_there ∙ held.rows (pos it.job)) in
        let sums = sum_of_other of jobs it.job w.0 was w.1 in
        let units_same : of w.0 ≡ of it = w.2 in
        omega (arith, e, sums, units_same)

  -- where none was
  module _ (free : job_at old name (pos it.job) ≡ None) where
    abbrev without : FinMap nat_cmp Job → FinMap nat_cmp Job
    without jobs = remove jobs it.job

    gone : (jobs : FinMap nat_cmp Job) → get (without jobs) it.job ≡ None
    gone jobs = get-remove nat_cmp_total jobs it.job it.job ∙ ap (λ b. cond b None (get jobs it.job)) (unsigned_tied it.job it.job ∙ same_number it.job)

    stays_under : (jobs : FinMap nat_cmp Job) (z : ℤ) → pos it.job ≢ z → under (without jobs) z ≡ under jobs z
    stays_under jobs (pos n) apart = get-remove nat_cmp_total jobs it.job n ∙ ap (λ b. cond b None (get jobs n)) (unsigned_tied n it.job ∙ other_number it.job n (λ e. apart (ap pos e)))
    stays_under jobs (negsuc n) apart = refl

    row_before : (jobs : FinMap nat_cmp Job) (z : ℤ) (b : Bool) (o n : Option Row) → (b ≡ true → pos it.job ≡ z) → (pos it.job ≡ z → b ≡ true) → (b ≡ true → o ≡ None) → n ≡ cond b (Some (job_cells name it)) o
        → n ≡ option_map (job_cells name) (under jobs z) → o ≡ option_map (job_cells name) (under (without jobs) z)
    row_before jobs z true o n is_it at_it none is held = none refl ∙ subst (λ y. ◌≡◌ {A = Option Row} None (option_map (job_cells name) (under (without jobs) y))) (is_it refl) (sym (ap (option_map (job_cells name)) (gone jobs)))
    row_before jobs z false o n is_it at_it none is held =
        let apart : pos it.job ≢ z = λ e. let no : false ≡ true = at_it e in cc in
        sym is ∙ held ∙ sym (ap (option_map (job_cells name)) (stays_under jobs z apart))

    number_before : (jobs : FinMap nat_cmp Job) → HoldsJobs new name jobs → (b : Bool) (k : ℕ) (x : Job) → cond b None (get jobs k) ≡ Some x → x.job ≡ k
    number_before jobs held true k x e = absurd (let no = e in cc)
    number_before jobs held false k x e = held.numbered k x e

    jobs_before : (jobs : FinMap nat_cmp Job) → HoldsJobs new name jobs → HoldsJobs old name (without jobs)
    jobs_before jobs held = record {
      rows = λ z. row_before jobs z (test z) (job_at old name z) (job_at new name z) (met z) (here z) (λ is. subst (λ y. job_at old name y ≡ None) (met z is) free) (sets.rows (Text name ∷ Int z ∷ [])) (held.rows z);
      numbered = λ k x is. number_before jobs held (k == it.job) k x (ap (λ b. cond b None (get jobs k)) (sym (unsigned_tied k it.job)) ∙ sym (get-remove nat_cmp_total jobs it.job k) ∙ is);
    }

    put_back : (jobs : FinMap nat_cmp Job) (w : Job) → get jobs it.job ≡ Some w → (q : ℕ) → get jobs q ≡ get (insert (without jobs) it.job w) q
    put_back jobs w there q =
        by_case (q == it.job) (met_is q it.job)
        ∙ sym (get-insert nat_cmp_total (without jobs) it.job w q ∙ ap (λ b. cond b (Some w) (get (without jobs) q)) (unsigned_tied q it.job)
        ∙ ap (cond (q == it.job) (Some w)) (get-remove nat_cmp_total jobs it.job q ∙ ap (λ b. cond b None (get jobs q)) (unsigned_tied q it.job)))
      where
        by_case : (b : Bool) → (b ≡ true → q ≡ it.job) → get jobs q ≡ cond b (Some w) (cond b None (get jobs q))
        by_case true same = ap (get jobs) (same refl) ∙ there
        by_case false same = refl

    pub adds_sum : MovesSum of name 0 (of it) old new
    adds_sum units right jobs held =
        let e = right (without jobs) (jobs_before jobs held) in
        let w = found_there (get jobs it.job) (sym now_there ∙ held.rows (pos it.job)) in
        let whole : jobs ≡ insert (without jobs) it.job w.0 = same_map nat_cmp_total nat_cmp-IsAntisymmetric _ _ (put_back jobs w.0 w.1) in
        let sums = sum_of_new of (without jobs) it.job w.0 (gone jobs) in
        let same_units : sum_by of (values jobs) ≡ sum_by of (values (insert (without jobs) it.job w.0)) = ap (λ (jobs : FinMap nat_cmp Job). sum_by of (values jobs)) whole in
        let units_same : of w.0 ≡ of it = w.2 in
        omega (arith, e, sums, same_units, units_same)

-- ---- the changes

module _ (of : Job → ℕ) (name : List ℕ) (shown : IsShown of name) where
  -- rows of jobs are as they were before the last part of a change, or after its first
  moves_then : (was is : ℕ) (a b c : Database) → MovesSum of name was is a b → ((n : ℤ) → job_at c name n ≡ job_at b name n) → MovesSum of name was is a c
  moves_then was is a b c moves same units right = same_sum of name b c same (units + is) (moves units right)

  moves_after : (was is : ℕ) (a b c : Database) → ((n : ℤ) → job_at b name n ≡ job_at a name n) → MovesSum of name was is b c → MovesSum of name was is a c
  moves_after was is a b c same moves units right = moves units (same_sum of name a b same (units + was) right)

  pub added_job_sum : (it : Job) (first : Option Document) (old new : Database) → AddsJob name it first old new → (row : Account) → account_at old name ≡ Some (account_cells name row) → MovesSum of name 0 (of it) old new
  added_job_sum it first old new adds row there =
      let mid = adds.with_job in
      let last = adds.with_document in
      let still : account_at last name ≡ Some (account_cells name row) = account_row_stays name first mid last adds.document_row ∙ account_row_kept name old mid (pos it.job) _ adds.job_row ∙ there in
      let counts = adds.account_row row still in
      moves_then 0 (of it) old last new
      (moves_then 0 (of it) old mid last (adds_sum of name shown old mid it adds.job_row adds.was_free) (job_row_stays name first mid last adds.document_row))
      (λ n. row_kept job_table last new (counts.rest.job (λ e. let no : ⊥ = cc in no)) (Text name ∷ Int n ∷ []))

  pub restood_sum : (number : ℕ) (standing : Standing) (next : Option Document) (old new : Database) → Restands name number standing next old new
      → (was : Job) → was.job ≡ number → job_at old name (pos number) ≡ Some (job_cells name was) → MovesSum of name (of was) (of (record was { standing = standing })) old new
  restood_sum number standing next old new stands was same there =
      let mid = stands.with_document in
      let stays = job_row_stays name next old mid stands.document_row in
      let still : job_at mid name (pos number) ≡ Some (job_cells name was) = stays (pos number) ∙ there in
      moves_after (of was) (of (record was { standing = standing })) old mid new stays
      (moves_sum of name shown mid new (record was { standing = standing }) (stands.job_row was still) was refl (subst (λ n. job_at mid name (pos n) ≡ Some (job_cells name was)) (sym same) still))

  pub ended_sum : (number : ℕ) (standing : Standing) (old new : Database) → EndsJob name number standing old new
      → (was : Job) → was.job ≡ number → job_at old name (pos number) ≡ Some (job_cells name was) → MovesSum of name (of was) (of (record was { standing = standing })) old new
  ended_sum number standing old new ends was same there =
      let mid = ends.with_standing in
      moves_then (of was) (of (record was { standing = standing })) old mid new
      (moves_sum of name shown old mid (record was { standing = standing }) (ends.job_row was there) was refl (subst (λ n. job_at old name (pos n) ≡ Some (job_cells name was)) (sym same) there))
      (λ n. row_kept job_table mid new (ends.document_rows.rest.job (λ e. let no : ⊥ = cc in no)) (Text name ∷ Int n ∷ []))
