-- The room of rows that are in order.
use Rattle.std.proofs.Common.{◌≡◌, ℕ, suc, ◌<◌, ◌≤◌, ℤ, pos, negsuc, Bool, true, false, ◌&&◌, ◌==◌, nat_le, List, map, filter, Option, Some, None, IfSome, IsSome, is_some, option_map, refl, sym, ap, subst, ◌∙◌, arith}
use Rattle.std.specs.List.{AllByRecursion}
use Rattle.std.specs.List.Sorted.{IsPermutation}
use Rattle.std.specs.Ordering.{nat_cmp, eq_by_cmp}
use Rattle.std.specs.Cmp.{nat_cmp_total, unsigned_tied}
use Rattle.std.specs.FinMap.{FinMap, get, values}
use Rattle.std.proofs.lemmas.Bool.Decides.{nat_tests}
use Rattle.std.proofs.lemmas.Bool.{eqb-true, true≢false}
use Rattle.std.proofs.lemmas.List.{length-map}
use Rattle.std.proofs.lemmas.List.Sums.{length-filter}
use Rattle.std.proofs.lemmas.List.Sorted.{length_permutation}
use Rattle.sqlite_value.specs.Order.{Row}
use Rattle.sqlite_trees.proofs.ListLemmas.{all_weaker, IsPermutation-filter}
use Rattle.sqlite.specs.Effect.{Database}
use Rattle.account_rules.specs.JobStates.{is_unfinished}
use Rattle.account_rules.specs.Limits.{last_month, most_documents, most_unfinished}
use Rattle.account_rules.specs.Names.{IsNameOrNone}
use Rattle.account_rules.specs.Standings.{IsStanding}
use Rattle.account_rules.specs.declared.account.Account.{Account}
use Rattle.account_rules.specs.declared.job.Document.{Document}
use Rattle.account_rules.specs.declared.job.Job.{Job}
use Rattle.account_state.specs.Rooms.{RoomValue, place_cmp}
use Rattle.account_state.specs.RoomRules.{has_document, unfinished_count, IsDocumentAt, IsGrant, IsJobAt}
use Rattle.account_state.proofs.DocumentMaps.{place_cmp_total, pair_tie}
use Rattle.account_state.proofs.JobMaps.{values_keep}
use Rattle.rows_tables.specs.Accounts.{document_at, grant_at, job_at, under, under_pair, whole, HoldsRoom}
use Rattle.rows_tables.specs.Cells.{document_cells, grant_cells, job_cells}
use Rattle.rows_tables.specs.Keyed.{HasSchema}
use Rattle.rows_tables.proofs.ReadBackLemmas.{rows_are_read_back}
use Rattle.rows_checks.specs.Checks.{RowsAreInOrder, RowsInOrderAreSound}
use Rattle.rows_statements.specs.SoundRows.{job_rows, tells_unfinished, unfinished_rows}
use Rattle.rows_statements.proofs.AccountRows.{rows_of_job_map}
use Rattle.rows_statements.proofs.QueueRows.{kept_jobs}
use Rattle.rows_statements.proofs.QueueTests.{early_state}
use Rattle.rows_checks.proofs.Tabulated.{tabulate, tabulated, below, is_below, pairs, are_below}

exact_number : (a b : ℕ) → eq_by_cmp nat_cmp a b ≡ true → a ≡ b
exact_number a b e = eqb-true a b (sym (unsigned_tied a b) ∙ e)

number_itself : (a : ℕ) → eq_by_cmp nat_cmp a a ≡ true
number_itself a = grind (arith, nat_tests)

exact_pair : (a b : ℕ × ℕ) → eq_by_cmp place_cmp a b ≡ true → a ≡ b
exact_pair a b e =
    let same = parts a.0 b.0 a.1 b.1 (sym (pair_tie a.0 a.1 b.0 b.1) ∙ e) in
    λ i. (same.0 i, same.1 i)
  where
    parts : (j k m n : ℕ) → ((k == j) && (n == m)) ≡ true → (j ≡ k) × (m ≡ n)
    parts j k m n is = grind (arith, nat_tests)

pair_itself : (a : ℕ × ℕ) → eq_by_cmp place_cmp a a ≡ true
pair_itself a = pair_tie a.0 a.1 a.0 a.1 ∙ both a.0 a.1
  where
    both : (j n : ℕ) → ((j == j) && (n == n)) ≡ true
    both j n = grind (arith, nat_tests)

module _ (db : Database) (has : HasSchema db) (name : List ℕ) (account : Account) (order : RowsAreInOrder db name account) where
  -- ---- the jobs

  abbrev job_of : ℕ → Option Job
  job_of n = (order.others.jobs.each n).found

  job_kept : (n : ℕ) (it : Job) → job_of n ≡ Some it → IsJobAt account.next_job n it
  job_kept n it is = of (job_of n) is (order.others.jobs.each n).in_range
    where
      of : (o : Option Job) → o ≡ Some it → IfSome o (IsJobAt account.next_job n) → IsJobAt account.next_job n it
      of None e range = absurd (let no : None ≡ Some it = e in cc)
      of (Some other) e range = subst (IsJobAt account.next_job n) (same e) range
        where
          same : Some other ≡ Some it → other ≡ it
          same e = cc

  abbrev jobs : FinMap nat_cmp Job
  jobs = tabulate nat_cmp nat_cmp_total exact_number number_itself job_of (below account.next_job)

  jobs_are : (n : ℕ) → get jobs n ≡ job_of n
  jobs_are = tabulated nat_cmp nat_cmp_total exact_number number_itself job_of (below account.next_job) (λ n it is. is_below account.next_job n (job_kept n it is).below_next)

  job_rows_are : (z : ℤ) → job_at db name z ≡ option_map (job_cells name) (under jobs z)
  job_rows_are (pos n) = (order.others.jobs.each n).read ∙ ap (option_map (job_cells name)) (sym (jobs_are n))
  job_rows_are (negsuc n) = order.others.jobs.numbered n

  jobs_kept : (n : ℕ) (it : Job) → get jobs n ≡ Some it → IsJobAt account.next_job n it
  jobs_kept n it is = job_kept n it (sym (jobs_are n) ∙ is)

  -- ---- their documents

  abbrev document_if : (j n : ℕ) (b : Bool) → has_document (job_of j) n ≡ b → Option Document
  document_if j n true is = Some ((order.others.jobs.each j).documents n is).0
  document_if j n false is = None

  abbrev document_of : ℕ × ℕ → Option Document
  document_of place = document_if place.0 place.1 (has_document (job_of place.0) place.1) refl

  there_is : (j n : ℕ) (b : Bool) (is : has_document (job_of j) n ≡ b) → is_some (document_if j n b is) ≡ b
  there_is j n true is = refl
  there_is j n false is = refl

  if_kept : (j n : ℕ) (b : Bool) (is : has_document (job_of j) n ≡ b) (it : Document) → document_if j n b is ≡ Some it → IsDocumentAt (j, n) it
  if_kept j n true is it e = subst (IsDocumentAt (j, n)) (same e) ((order.others.jobs.each j).documents n is).1
    where
      same : Some ((order.others.jobs.each j).documents n is).0 ≡ Some it → ((order.others.jobs.each j).documents n is).0 ≡ it
      same e = cc
  if_kept j n false is it e = absurd (let no : None ≡ Some it = e in cc)

  if_numbered : (j n : ℕ) (b : Bool) (is : has_document (job_of j) n ≡ b) (it : Document) → document_if j n b is ≡ Some it → b ≡ true
  if_numbered j n true is it e = refl
  if_numbered j n false is it e = absurd (let no : None ≡ Some it = e in cc)

  -- a job that has a document
  has_few : (j n : ℕ) (o : Option Job) → job_of j ≡ o → has_document o n ≡ true → (j < account.next_job) × (n < suc most_documents)
  has_few j n None is h = absurd (true≢false (sym h))
  has_few j n (Some it) is h =
      let kept = job_kept j it is in
      let most = kept.standing.ranges.documents_at_most in
      let few : n ≤ it.standing.documents = last (is_unfinished it.standing.state) (nat_le 1 n) n it.standing.documents h in
      (kept.below_next, omega (arith, most, few))
    where
      last : (a b : Bool) (m n : ℕ) → (a && b && nat_le m n) ≡ true → m ≤ n
      last a b m n h = grind (arith, nat_tests)

  abbrev documents : FinMap place_cmp Document
  documents = tabulate place_cmp place_cmp_total exact_pair pair_itself document_of (pairs account.next_job (suc most_documents))

  documents_are : (place : ℕ × ℕ) → get documents place ≡ document_of place
  documents_are = tabulated place_cmp place_cmp_total exact_pair pair_itself document_of (pairs account.next_job (suc most_documents)) (λ place it is.
      let few = has_few place.0 place.1 (job_of place.0) refl (if_numbered place.0 place.1 (has_document (job_of place.0) place.1) refl it is) in
      are_below account.next_job (suc most_documents) place.0 place.1 few.0 few.1)

  -- a row of a document is of a job that has it
  of_a_job : (j n : ℕ) → IsSome (document_at db name (pos j) (pos n)) → has_document (job_of j) n ≡ true
  of_a_job j n some =
      let told = order.others.documents.each j n some in
      of told.0 told.1.0 told.1.1 told.2 (job_of j) refl (order.others.jobs.each j).read
    where
      of : (it : Job) → IsNameOrNone it.standing.device → has_document (Some it) n ≡ true → job_at db name (pos j) ≡ Some (job_cells name it) → (o : Option Job) → job_of j ≡ o → job_at db name (pos j) ≡ option_map (job_cells name) o → has_document o n ≡ true
      of it named h at None is e = absurd (let no : None ≡ Some (job_cells name it) = sym e ∙ at in cc)
      of it named h at (Some other) is e =
          let cells : job_cells name it ≡ job_cells name other = row_of (sym at ∙ e) in
          let same : it ≡ other = (rows_are_read_back.jobs name name it other named (job_kept j other is).standing.named_device cells).1 in
          subst (λ (x : Job). has_document (Some x) n ≡ true) same h
        where
          row_of : {a b : Row} → Some a ≡ Some b → a ≡ b
          row_of e = cc

  document_row : (j n : ℕ) (b : Bool) (is : has_document (job_of j) n ≡ b) → document_at db name (pos j) (pos n) ≡ option_map (document_cells name) (document_if j n b is)
  document_row j n true is = ((order.others.jobs.each j).documents n is).2
  document_row j n false is = none (document_at db name (pos j) (pos n)) refl
    where
      none : (o : Option Row) → document_at db name (pos j) (pos n) ≡ o → o ≡ None
      none None e = refl
      none (Some row) e = absurd (true≢false (sym (of_a_job j n (subst IsSome (sym e) some_it)) ∙ is))
        where
          some_it : IsSome (Some row)
          some_it = search

  not_numbered : (y z : ℤ) → ((j n : ℕ) → y ≡ pos j → z ≡ pos n → ⊥) → document_at db name y z ≡ None
  not_numbered y z none = of (document_at db name y z) refl
    where
      of : (o : Option Row) → document_at db name y z ≡ o → o ≡ None
      of None e = refl
      of (Some row) e = let it = order.others.documents.numbered y z (subst IsSome (sym e) some_it) in absurd (none it.0 it.1 it.2 it.3)
        where
          some_it : IsSome (Some row)
          some_it = search

  document_rows_are : (y z : ℤ) → document_at db name y z ≡ option_map (document_cells name) (under_pair documents y z)
  document_rows_are (pos j) (pos n) = document_row j n (has_document (job_of j) n) refl ∙ ap (option_map (document_cells name)) (sym (documents_are (j, n)))
  document_rows_are (pos j) (negsuc n) = not_numbered (pos j) (negsuc n) (λ k m e f. let no : negsuc n ≡ pos m = f in cc)
  document_rows_are (negsuc j) (pos n) = not_numbered (negsuc j) (pos n) (λ k m e f. let no : negsuc j ≡ pos k = e in cc)
  document_rows_are (negsuc j) (negsuc n) = not_numbered (negsuc j) (negsuc n) (λ k m e f. let no : negsuc j ≡ pos k = e in cc)

  -- ---- the grants

  abbrev grant_of : ℕ → Option ℕ
  grant_of month = (order.others.grants.each month).0

  grant_kept : (month pages : ℕ) → grant_of month ≡ Some pages → IsGrant month pages
  grant_kept month pages is = of (grant_of month) is (order.others.grants.each month).1
    where
      of : (o : Option ℕ) → o ≡ Some pages → IfSome o (IsGrant month) → IsGrant month pages
      of None e range = absurd (let no : None ≡ Some pages = e in cc)
      of (Some other) e range = subst (IsGrant month) (same e) range
        where
          same : Some other ≡ Some pages → other ≡ pages
          same e = cc

  abbrev grants : FinMap nat_cmp ℕ
  grants = tabulate nat_cmp nat_cmp_total exact_number number_itself grant_of (below (suc last_month))

  grants_are : (month : ℕ) → get grants month ≡ grant_of month
  grants_are = tabulated nat_cmp nat_cmp_total exact_number number_itself grant_of (below (suc last_month)) (λ month pages is. is_below (suc last_month) month (let kept = grant_kept month pages is in omega (arith, kept.to_last)))

  grant_rows_are : (z : ℤ) → grant_at db name z ≡ option_map (grant_cells name (whole z)) (under grants z)
  grant_rows_are (pos month) = (order.others.grants.each month).2 ∙ ap (option_map (grant_cells name month)) (sym (grants_are month))
  grant_rows_are (negsuc month) = order.others.grants.numbered month

  -- ---- the room

  abbrev room : RoomValue
  room = record { opened = account.opened; next = account.next_job; jobs = jobs; documents = documents; grants = grants }

  sound_jobs : AllByRecursion (λ (it : Job). IsStanding it.standing) (values jobs)
  sound_jobs = values_keep (λ _ (it : Job). IsStanding it.standing) jobs (λ n it is. let at = jobs_kept n it is in (at.numbered, at.standing))

  unfinished_are : IsPermutation (unfinished_rows db name) (map (job_cells name) (filter (λ (it : Job). is_unfinished it.standing.state) (values jobs)))
  unfinished_are =
      subst (IsPermutation (unfinished_rows db name)) (kept_jobs name None tells_unfinished (λ (it : Job). is_unfinished it.standing.state) (values jobs) (all_weaker (λ (it : Job). IsStanding it.standing) _ (λ (it : Job) sound. early_state it.standing.state it.standing sound.by_state) (values jobs) sound_jobs))
      (IsPermutation-filter tells_unfinished (job_rows db name) (map (job_cells name) (values jobs)) (rows_of_job_map db has name jobs (λ n it is. (jobs_kept n it is).numbered) job_rows_are))

  few : unfinished_count room ≤ most_unfinished
  few =
      let queue = filter (λ (it : Job). is_unfinished it.standing.state) (values jobs) in
      omega (arith, order.others.few, length_permutation (unfinished_rows db name) (map (job_cells name) queue) unfinished_are, length-map queue (job_cells name), length-filter (λ (it : Job). is_unfinished it.standing.state) (values jobs))

  pub room_in_order : (it : RoomValue) × HoldsRoom db name it
  room_in_order = (
    room,
    record {
      is_room = record {
        opened_in_range = order.in_range.opened_in_range;
        next_from_one = order.in_range.next_from_one;
        next_in_range = order.in_range.next_in_range;
        jobs = jobs_kept;
        few_unfinished = few;
        documents = λ place it is. if_kept place.0 place.1 (has_document (job_of place.0) place.1) refl it (sym (documents_are place) ∙ is);
        all_documents = λ j n. ap is_some (documents_are (j, n)) ∙ there_is j n (has_document (job_of j) n) refl ∙ ap (λ o. has_document o n) (sym (jobs_are j));
        grants = λ month pages is. grant_kept month pages (sym (grants_are month) ∙ is);
      };
      rows = record {
        account_row = order.account_row;
        job_rows = job_rows_are;
        document_rows = document_rows_are;
        grant_rows = grant_rows_are;
      };
    },
  )

pub rows_in_order_are_sound : RowsInOrderAreSound
rows_in_order_are_sound db name account has order = room_in_order db has name account order
