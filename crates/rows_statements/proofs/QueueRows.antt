-- The jobs of an account in the orders of Get-Jobs: what the rows of the walks tell.
use Rattle.std.proofs.Common.{◌≡◌, ℕ, ◌+◌, Bool, true, false, not, ◌&&◌, List, [], ◌∷◌, length, set, get_or, map, filter, take, drop, Option, None, Some, IsSome, refl, sym, ap, subst, subst₂, ◌∙◌, Ordering, Less, is_lt, IsSorted, arith}
use Rattle.std.specs.List.{AllByRecursion}
use Rattle.std.specs.List.{swap}
use Rattle.std.proofs.Math.ListN.{get_or-map}
use Rattle.std.proofs.lemmas.List.{map-set}
use Rattle.std.specs.List.Sorted.{IsPermutation}
use Rattle.std.specs.FinMap.{values}
use Rattle.std.proofs.lemmas.Bool.{true≢false}
use Rattle.std.proofs.lemmas.List.{length-map, take-map}
use Rattle.std.proofs.lemmas.List.Sorted.{IsPermutation-keeps, IsPermutation-map, IsPermutation-refl, IsPermutation-swap, IsPermutation-trans}
use Rattle.sqlite_value.specs.declared.value.Value.TheVariants.{Text}
use Rattle.sqlite_value.specs.declared.keys.Key.{Key}
use Rattle.sqlite_value.specs.Order.{Row}
use Rattle.sqlite_trees.specs.Tree.{IsAscending}
use Rattle.sqlite_trees.proofs.ListLemmas.{map-map, filter-map, filter_same, all_of, all_weaker, all-permutation, IsPermutation-filter, ascending-map}
use Rattle.sqlite_sql.specs.Query.{Query, Output, limited, output, output_cmp, page}
use Rattle.sqlite_sql.specs.Term.{Term, col}
use Rattle.sqlite.specs.Effect.{Database}
use Rattle.account_rules.specs.JobStates.{is_unfinished}
use Rattle.account_rules.specs.declared.job.Job.{Job}
use Rattle.account_rules.specs.declared.job.JobState.{JobState}
use Rattle.account_rules.specs.declared.job.JobState.TheVariants.{Held, Pending, Processing, Canceled, Aborted, Completed}
use Rattle.account_rules.specs.Standings.{IsStanding, KeepsToState}
use Rattle.account_state.specs.Rooms.{RoomValue}
use Rattle.account_state.specs.RoomRules.{NumbersRise}
use Rattle.account_state.specs.Queues.{not_completed, ended_jobs, completed, first_jobs}
use Rattle.account_state.proofs.JobMaps.{values_keep, values_rise}
use Rattle.account_state.proofs.QueueOrders.{not_completed_rise, completed_permutes, completed_fall}
use Rattle.rows_tables.specs.Places.{job_tree, account_places}
use Rattle.rows_tables.specs.Tables.{job}
use Rattle.rows_tables.specs.Keyed.{HasSchema, rows_under}
use Rattle.rows_tables.specs.Queries.{first_of_table, passes, IsShownBy}
use Rattle.rows_tables.specs.Cells.{job_cells}
use Rattle.rows_tables.specs.Accounts.{HoldsRoom, HoldsNothing}
use Rattle.rows_statements.specs.Queues.{by_falling_end, by_rising_number, numbered_cells, listed_cells, AreFirst, AreListed}
use Rattle.rows_statements.specs.SoundRows.{job_rows, unfinished_rows, ended_rows, tells_unfinished, tells_ended}
use Rattle.rows_tables.proofs.Queries.{env, answer_in_order, answer_ordered}
use Rattle.rows_statements.proofs.AccountRows.{no_jobs, rows_of_jobs}
use Rattle.rows_statements.proofs.QueueTexts.{shows, params, unfinished_tests, unfinished_order, unfinished_query, ended_tests, ended_order, ended_query}
use Rattle.rows_statements.proofs.QueueTests.{of_account, early_state, late_state, asks_early, asks_late}
use Rattle.rows_statements.proofs.QueueSorts.{told_by, job_told, with_number, by_number, early_outputs, early_rise, rises_by, by_end, late_outputs, late_fall, falls_by}

pub filter_both : (p q : Row → Bool) (rows : List Row) → filter (λ r. p r && q r) rows ≡ filter q (filter p rows)
filter_both p q [] = refl
filter_both p q (r ∷ rows) = by_case (p r) (q r) refl refl (filter_both p q rows)
  where
    by_case : (a b : Bool) → p r ≡ a → q r ≡ b → filter (λ r. p r && q r) rows ≡ filter q (filter p rows) → filter (λ r. p r && q r) (r ∷ rows) ≡ filter q (filter p (r ∷ rows))
    by_case true true is are rest = rw (is, are) (ap (λ l. r ∷ l) rest)
    by_case true false is are rest = rw (is, are) rest
    by_case false b is are rest = rw is rest

map_swap : {X Y : Type 0} (f : X → Y) (xs : List X) (i j : ℕ) → swap (map f xs) i j ≡ map f (swap xs i j)
map_swap f [] i j = refl
map_swap {X} {Y} f (x ∷ xs) i j =
    let all = x ∷ xs in
    ap (λ (v : Y). set (set (map f all) i v) j (get_or (map f all) i (f x))) (get_or-map f all j x)
    ∙ ap (λ (v : Y). set (set (map f all) i (f (get_or all j x))) j v) (get_or-map f all i x)
    ∙ sym (map-set f (set all i (get_or all j x)) j (get_or all i x) ∙ ap (λ (l : List Y). set l j (f (get_or all i x))) (map-set f all i (get_or all j x)))

-- what is shown of a list is put in another order as the list is
unmapped : {X Y : Type 0} (f : X → Y) (xs : List X) (ys : List Y) → IsPermutation (map f xs) ys → (zs : List X) × IsPermutation xs zs × (ys ≡ map f zs)
unmapped {X} {Y} f xs ys = IsPermutation-keeps (map f xs) (λ (l : List Y). (zs : List X) × IsPermutation xs zs × (l ≡ map f zs)) (xs, IsPermutation-refl xs, refl) (λ l i j p q h.
    let long = ap length h.2 ∙ length-map h.0 f in
    (swap h.0 i j, IsPermutation-trans _ _ _ h.1 (IsPermutation-swap h.0 (swap h.0 i j) i j (omega (arith, p, long)) (omega (arith, q, long)) refl), ap (λ (m : List Y). swap m i j) h.2 ∙ map_swap f h.0 i j)) ys

-- what is sorted as it is shown is sorted by that
sorted_keys : {X Y : Type 0} (f : X → Y) (by : X → X → Ordering) (cmp : Y → Y → Ordering) → ((a b : X) → by a b ≡ cmp (f a) (f b)) → (xs : List X) → IsSorted cmp (map f xs) → IsSorted by xs
sorted_keys f by cmp same xs sorted k d low high =
    let here = sorted k (f d) low (omega (arith, length-map xs f)) in
    ap is_lt (same _ _) ∙ subst₂ (λ a b. is_lt (cmp a b) ≡ false) (get_or-map f xs (k + 1) d) (get_or-map f xs k d) here

module _ (tests : List Term) (order : List (Term × Key)) (name : List ℕ) (limit : Option ℕ) (state_test : Row → Bool) (sorts : Row → Row)
    (asks : (r : Row) → passes tests (params name limit) r ≡ (of_account name r && state_test (drop 1 r)))
    (outputs : (r : Row) → output (first_of_table job_tree tests shows order (col 0 1)) (env (params name limit) r) ≡ told_by sorts (drop 1 r)) where
  abbrev query : Query
  query = first_of_table job_tree tests shows order (col 0 1)

  passing_rows : (rows : List Row) → map (λ r. output query (env (params name limit) r)) (filter (passes tests (params name limit)) rows) ≡ map (told_by sorts) (filter state_test (map (drop 1) (filter (of_account name) rows)))
  passing_rows rows =
      ap (map (λ r. output query (env (params name limit) r))) (filter_same (passes tests (params name limit)) (λ r. of_account name r && state_test (drop 1 r)) rows (all_of _ asks rows) ∙ filter_both (of_account name) (λ r. state_test (drop 1 r)) rows)
      ∙ outputs_alike (filter (λ r. state_test (drop 1 r)) (filter (of_account name) rows))
      ∙ ap (map (told_by sorts)) (sym (filter-map state_test (drop 1) (filter (of_account name) rows)))
    where
      outputs_alike : (rs : List Row) → map (λ r. output query (env (params name limit) r)) rs ≡ map (told_by sorts) (map (drop 1) rs)
      outputs_alike [] = refl
      outputs_alike (r ∷ rs) = ap (λ (l : List Output). output query (env (params name limit) r) ∷ l) (outputs_alike rs) ∙ ap (λ (o : Output). o ∷ map (told_by sorts) (map (drop 1) rs)) (outputs r)

  limited_so : (wanted : List Job) (most : Option ℕ) → most ≡ limit → page query (params name most) (map (λ (o : Output). o.1) (map (job_told sorts name) wanted)) ≡ map numbered_cells (first_jobs most wanted)
  limited_so wanted None same = map-map (λ (o : Output). o.1) (job_told sorts name) wanted
  limited_so wanted (Some n) same = ap (take n) (map-map (λ (o : Output). o.1) (job_told sorts name) wanted) ∙ take-map numbered_cells n wanted

  pub rows_told : (db : Database) (rows : List Row) → IsShownBy query db.trees (params name limit) rows → (wanted : List Job)
      → IsPermutation (filter state_test (rows_under job account_places (Text name ∷ []) db)) (map (job_cells name) wanted)
      → IsAscending (λ a b. output_cmp query (job_told sorts name a) (job_told sorts name b) ≡ Less) wanted
      → rows ≡ map numbered_cells (first_jobs limit wanted)
  rows_told db rows answer wanted same up =
      let permuted = IsPermutation-map (told_by sorts) (filter state_test (rows_under job account_places (Text name ∷ []) db)) (map (job_cells name) wanted) same in
      let all : IsPermutation (map (λ r. output query (env (params name limit) r)) (filter (passes tests (params name limit)) (db.trees job_tree))) (map (job_told sorts name) wanted) =
      subst (λ l. IsPermutation l (map (job_told sorts name) wanted)) (sym (passing_rows (db.trees job_tree))) (subst (IsPermutation (map (told_by sorts) (filter state_test (rows_under job account_places (Text name ∷ []) db)))) (map-map (told_by sorts) (job_cells name) wanted) permuted) in
      answer_in_order job_tree tests shows order (col 0 1) db.trees (params name limit) rows answer (map (job_told sorts name) wanted) all (ascending-map (λ a b. output_cmp query a b ≡ Less) (job_told sorts name) wanted up) ∙ limited_so wanted limit refl

  limited_rows : (all : List Row) (most : Option ℕ) → most ≡ limit → page query (params name most) (map (λ (o : Output). o.1) (map (told_by sorts) all)) ≡ map with_number (limited most all)
  limited_rows all None same = map-map (λ (o : Output). o.1) (told_by sorts) all
  limited_rows all (Some n) same = ap (take n) (map-map (λ (o : Output). o.1) (told_by sorts) all) ∙ take-map with_number n all

  -- what is shown are the first so many of the account's rows that pass the test of the state
  pub rows_first : (by : Row → Row → Ordering) → ((a b : Row) → by a b ≡ output_cmp query (told_by sorts a) (told_by sorts b)) → (db : Database) (rows : List Row) → IsShownBy query db.trees (params name limit) rows
      → (first : List Row) × AreFirst by limit (filter state_test (job_rows db name)) first × (rows ≡ map listed_cells first)
  rows_first by same db rows answer =
      let all = answer_ordered job_tree tests shows order (col 0 1) db.trees (params name limit) rows answer in
      let theirs = filter state_test (job_rows db name) in
      let put = unmapped (told_by sorts) theirs all.0 (subst (λ (l : List Output). IsPermutation l all.0) (passing_rows (db.trees job_tree)) all.1) in
      let sorted : IsSorted by put.0 = sorted_keys (told_by sorts) by (output_cmp query) same put.0 (subst (λ (l : List Output). IsSorted (output_cmp query) l) put.2 all.2) in (
        limited limit put.0,
        record { all = put.0; same = put.1; sorted = sorted; are = refl },
        all.3 ∙ ap (λ (l : List Output). page query (params name limit) (map (λ (o : Output). o.1) l)) put.2 ∙ limited_rows put.0 limit refl,
      )

-- ---- those that have not ended

module _ (name : List ℕ) (limit : Option ℕ) where
  room_sound : (db : Database) (room : RoomValue) → HoldsRoom db name room → AllByRecursion (λ (it : Job). IsStanding it.standing) (values room.jobs)
  room_sound db room held = values_keep (λ _ (it : Job). IsStanding it.standing) room.jobs (λ n it is. let at = held.is_room.jobs n it is in (at.numbered, at.standing))

  -- the rows of the jobs that are in such a state
  pub kept_jobs : (state_test : Row → Bool) (test : Job → Bool) (jobs : List Job) → AllByRecursion (λ (it : Job). state_test (job_cells name it) ≡ test it) jobs → filter state_test (map (job_cells name) jobs) ≡ map (job_cells name) (filter test jobs)
  kept_jobs state_test test jobs same = filter-map state_test (job_cells name) jobs ∙ ap (map (job_cells name)) (filter_same (λ it. state_test (job_cells name it)) test jobs same)

  kept_rows : (db : Database) → HasSchema db → (state_test : Row → Bool) (test : Job → Bool) → ((it : Job) → IsStanding it.standing → state_test (job_cells name it) ≡ test it)
      → (room : RoomValue) → HoldsRoom db name room → IsPermutation (filter state_test (rows_under job account_places (Text name ∷ []) db)) (map (job_cells name) (filter test (values room.jobs)))
  kept_rows db has state_test test same room held =
      subst (IsPermutation (filter state_test (rows_under job account_places (Text name ∷ []) db))) (kept_jobs state_test test (values room.jobs) (all_weaker (λ (it : Job). IsStanding it.standing) _ same (values room.jobs) (room_sound db room held)))
      (IsPermutation-filter state_test (rows_under job account_places (Text name ∷ []) db) (map (job_cells name) (values room.jobs)) (rows_of_jobs db has name room held))

  room_rises : (db : Database) (room : RoomValue) → HoldsRoom db name room → NumbersRise (values room.jobs)
  room_rises db room held = values_rise room.jobs (λ n it is. (held.is_room.jobs n it is).numbered)

  pub unfinished_listed : (db : Database) → HasSchema db → (rows : List Row) → IsShownBy unfinished_query db.trees (params name limit) rows → AreListed (λ all. first_jobs limit (not_completed all)) by_rising_number limit (unfinished_rows db name) db name rows
  unfinished_listed db has rows answer =
      let first = rows_first unfinished_tests unfinished_order name limit tells_unfinished by_number (asks_early name limit) (early_outputs name limit) by_rising_number (rises_by name limit) db rows answer in
      record {
        of_room = λ room held.
            rows_told unfinished_tests unfinished_order name limit tells_unfinished by_number (asks_early name limit) (early_outputs name limit) db rows answer (not_completed (values room.jobs))
            (kept_rows db has tells_unfinished (λ (it : Job). is_unfinished it.standing.state) (λ (it : Job) sound. early_state it.standing.state it.standing sound.by_state) room held)
            (early_rise name limit (not_completed (values room.jobs)) (not_completed_rise (values room.jobs) (room_rises db room held)));
        first = first.0;
        are_first = first.1;
        are_shown = first.2;
      }

  by_state_ended : (it : Job) (s : JobState) → KeepsToState s it.standing → is_unfinished s ≡ false → IsSome it.standing.ended
  by_state_ended it Held keeps isnt = absurd (true≢false isnt)
  by_state_ended it Pending keeps isnt = absurd (true≢false isnt)
  by_state_ended it Processing keeps isnt = absurd (true≢false isnt)
  by_state_ended it Canceled keeps isnt = keeps.has_ended
  by_state_ended it Aborted keeps isnt = keeps.has_ended
  by_state_ended it Completed keeps isnt = keeps.has_ended

  have_ended : (jobs : List Job) → AllByRecursion (λ (it : Job). IsStanding it.standing) jobs → AllByRecursion (λ (it : Job). IsSome it.standing.ended) (ended_jobs jobs)
  have_ended [] sound = tt
  have_ended (it ∷ jobs) sound = by_case (is_unfinished it.standing.state) refl (have_ended jobs sound.1)
    where
      by_case : (b : Bool) → is_unfinished it.standing.state ≡ b → AllByRecursion (λ (it : Job). IsSome it.standing.ended) (ended_jobs jobs) → AllByRecursion (λ (it : Job). IsSome it.standing.ended) (ended_jobs (it ∷ jobs))
      by_case true is rest = rw is rest
      by_case false isnt rest = rw isnt (by_state_ended it it.standing.state sound.0.by_state isnt, rest)

  pub ended_listed : (db : Database) → HasSchema db → (rows : List Row) → IsShownBy ended_query db.trees (params name limit) rows → AreListed (λ all. first_jobs limit (completed all)) by_falling_end limit (ended_rows db name) db name rows
  ended_listed db has rows answer =
      let first = rows_first ended_tests ended_order name limit tells_ended by_end (asks_late name limit) (late_outputs name limit) by_falling_end (falls_by name limit) db rows answer in
      record {
        of_room = λ room held.
            let jobs = values room.jobs in
            let same = completed_permutes jobs in
            rows_told ended_tests ended_order name limit tells_ended by_end (asks_late name limit) (late_outputs name limit) db rows answer (completed jobs)
            (IsPermutation-trans _ _ _ (kept_rows db has tells_ended (λ (it : Job). not (is_unfinished it.standing.state)) (λ (it : Job) sound. late_state it.standing.state it.standing sound.by_state) room held) (IsPermutation-map (job_cells name) (ended_jobs jobs) (completed jobs) same))
            (late_fall name limit (completed jobs) (all-permutation (λ (it : Job). IsSome it.standing.ended) (ended_jobs jobs) (completed jobs) same (have_ended jobs (room_sound db room held))) (completed_fall jobs (room_rises db room held)));
        first = first.0;
        are_first = first.1;
        are_shown = first.2;
      }

-- the rows that tell no end are those of the jobs that have not ended
pub unfinished_kept : (db : Database) → HasSchema db → (name : List ℕ) (room : RoomValue) → HoldsRoom db name room → IsPermutation (unfinished_rows db name) (map (job_cells name) (not_completed (values room.jobs)))
unfinished_kept db has name room held =
    kept_rows name None db has tells_unfinished (λ (it : Job). is_unfinished it.standing.state) (λ (it : Job) sound. early_state it.standing.state it.standing sound.by_state) room held

pub none_unfinished : (db : Database) → HasSchema db → (name : List ℕ) → HoldsNothing db name → IsPermutation (unfinished_rows db name) []
none_unfinished db has name held = IsPermutation-filter tells_unfinished (job_rows db name) [] (no_jobs db has name held)
