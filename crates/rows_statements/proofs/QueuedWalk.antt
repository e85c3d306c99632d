-- The walk over the jobs of an account that have not ended: what it is shown, and what it counts.
use Rattle.std.proofs.Common.{◌≡◌, ℕ, ◌≤◌, Bool, true, false, cond, ◌&&◌, ◌||◌, List, [], ◌∷◌, map, filter, drop, None, Some, refl, sym, ap, ◌∙◌, IsTrue, arith}
use Rattle.std.specs.List.{sum_by, list_any}
use Rattle.std.specs.FinMap.{values}
use Rattle.std.proofs.lemmas.Bool.{true≢false}
use Rattle.std.proofs.lemmas.List.Sums.{sum_by-cons}
use Rattle.sqlite_value.specs.declared.value.Value.TheVariants.{Text}
use Rattle.sqlite_value.specs.Order.{Row, column}
use Rattle.sqlite_value.specs.Keys.{first_key}
use Rattle.sqlite_trees.proofs.ListLemmas.{filter-map, filter_same, all_of}
use Rattle.sqlite.specs.Effect.{Database}
use Rattle.account_rules.specs.JobStates.{is_unfinished, is_processing}
use Rattle.account_rules.specs.declared.job.Job.{Job}
use Rattle.account_rules.specs.declared.job.JobState.{JobState}
use Rattle.account_rules.specs.declared.job.JobState.TheVariants.{Held, Pending, Processing, Canceled, Aborted, Completed}
use Rattle.account_state.specs.Queues.{not_completed}
use Rattle.account_state.specs.Tallies.{tally_of, is_in_bounds}
use Rattle.account_state.proofs.TallyLemmas.{three_lower, room_in_bounds}
use Rattle.rows_tables.specs.Places.{job_tree, job_column}
use Rattle.rows_tables.specs.Keyed.{HasSchema}
use Rattle.rows_tables.specs.Queries.{passes, shown_of}
use Rattle.rows_tables.specs.Accounts.{IsSound}
use Rattle.rows_statements.specs.Totals.{counted_cells}
use Rattle.rows_statements.specs.SoundRows.{tells_unfinished, unfinished_rows, CanBeCounted}
use Rattle.rows_statements.proofs.QueuedText.{queued_tests}
use Rattle.rows_statements.proofs.QueueTests.{of_account, regrouped}
use Rattle.rows_statements.proofs.QueueRows.{filter_both, unfinished_kept, none_unfinished}
use Rattle.rows_statements.proofs.RowTotals.{of_their_cells}
use Rattle.rows_statements.proofs.TallyWalk.{tally_shows, cells_counted}

asks : (name : List ℕ) (r : Row) → passes queued_tests (Text name ∷ []) r ≡ (of_account name r && tells_unfinished (drop 1 r))
unfolding first_key
asks name [] = regrouped _ _
asks name (v ∷ r) = regrouped _ _

-- the rows that pass the tests of the text are those of the account that tell no end
pub told_unfinished : (told cells : Row → Row) (same : (r : Row) → told r ≡ cells (drop 1 r)) (name : List ℕ) (db : Database) → map told (filter (passes queued_tests (Text name ∷ [])) (db.trees job_tree)) ≡ map cells (unfinished_rows db name)
told_unfinished told cells same name db =
    let chosen = filter (of_account name) (db.trees job_tree) in
    ap (map told) (filter_same (passes queued_tests (Text name ∷ [])) (λ r. of_account name r && tells_unfinished (drop 1 r)) (db.trees job_tree) (all_of _ (asks name) (db.trees job_tree)) ∙ filter_both (of_account name) (λ r. tells_unfinished (drop 1 r)) (db.trees job_tree))
    ∙ of_their_cells told cells same (filter (λ r. tells_unfinished (drop 1 r)) chosen)
    ∙ ap (map cells) (sym (filter-map tells_unfinished (drop 1) chosen))

pub queued_shown : (name : List ℕ) (db : Database) → shown_of job_tree queued_tests tally_shows (Text name ∷ []) db.trees ≡ map counted_cells (unfinished_rows db name)
queued_shown = told_unfinished (λ r. column r job_column.state ∷ column r job_column.reserved ∷ column r job_column.charged ∷ []) counted_cells cells_counted

-- ---- jobs that have not ended, among all of them

module _ (P : Job → Bool) where
  sum_fewer : (f : Job → ℕ) (jobs : List Job) → sum_by f (filter P jobs) ≤ sum_by f jobs
  sum_fewer f [] = omega arith
  sum_fewer f (it ∷ jobs) =
      let rest = sum_fewer f jobs in
      let all = sum_by-cons f it jobs in
      (elim (P it) as (λ b. sum_by f (cond b (it ∷ filter P jobs) (filter P jobs)) ≤ sum_by f (it ∷ jobs)) [
        | true ↦ omega (arith, rest, all, sum_by-cons f it (filter P jobs))
        | false ↦ omega (arith, rest, all)
      ])

  -- a sum to which the others add nothing
  sum_same : (f : Job → ℕ) → ((it : Job) → P it ≡ false → f it ≡ 0) → (jobs : List Job) → sum_by f (filter P jobs) ≡ sum_by f jobs
  sum_same f none [] = refl
  sum_same f none (it ∷ jobs) = by_case (P it) refl (sum_same f none jobs)
    where
      by_case : (b : Bool) → P it ≡ b → sum_by f (filter P jobs) ≡ sum_by f jobs → sum_by f (filter P (it ∷ jobs)) ≡ sum_by f (it ∷ jobs)
      by_case true is rest = rw is (omega (arith, rest, sum_by-cons f it jobs, sum_by-cons f it (filter P jobs)))
      by_case false isnt rest = rw isnt (omega (arith, rest, sum_by-cons f it jobs, none it isnt))

  any_same : (p : Job → Bool) → ((it : Job) → P it ≡ false → p it ≡ false) → (jobs : List Job) → list_any p (filter P jobs) ≡ list_any p jobs
  any_same p none [] = refl
  any_same p none (it ∷ jobs) = by_case (P it) refl (any_same p none jobs)
    where
      by_case : (b : Bool) → P it ≡ b → list_any p (filter P jobs) ≡ list_any p jobs → list_any p (filter P (it ∷ jobs)) ≡ list_any p (it ∷ jobs)
      by_case true is rest = rw is (ap (λ b. p it || b) rest)
      by_case false isnt rest = rw isnt (rest ∙ sym (ap (λ b. b || list_any p jobs) (none it isnt)))

abbrev early : Job → Bool
early it = is_unfinished it.standing.state

ended_is_none : (s : JobState) → is_unfinished s ≡ false → ◌≡◌ {A = ℕ} (cond (is_unfinished s) 1 0) 0
ended_is_none s isnt = rw isnt refl

ended_is_idle : (s : JobState) → is_unfinished s ≡ false → is_processing s ≡ false
ended_is_idle Held isnt = absurd (true≢false isnt)
ended_is_idle Pending isnt = absurd (true≢false isnt)
ended_is_idle Processing isnt = absurd (true≢false isnt)
ended_is_idle Canceled isnt = refl
ended_is_idle Aborted isnt = refl
ended_is_idle Completed isnt = refl

pub queued_count : (jobs : List Job) → (tally_of (not_completed jobs)).unfinished ≡ (tally_of jobs).unfinished
queued_count jobs = sum_same early (λ it. cond (early it) 1 0) (λ it isnt. ended_is_none it.standing.state isnt) jobs

pub queued_processing : (jobs : List Job) → (tally_of (not_completed jobs)).is_processing ≡ (tally_of jobs).is_processing
queued_processing jobs = any_same early (λ it. is_processing it.standing.state) (λ it isnt. ended_is_idle it.standing.state isnt) jobs

queued_in_bounds : (jobs : List Job) → IsTrue (is_in_bounds (tally_of jobs)) → IsTrue (is_in_bounds (tally_of (not_completed jobs)))
queued_in_bounds jobs within =
    three_lower _ _ _ _ _ _ (sum_fewer early (λ it. cond (early it) 1 0) jobs) (sum_fewer early (λ it. it.standing.reserved) jobs) (sum_fewer early (λ it. it.standing.charged) jobs) within

-- sound rows can be read
pub queued_read : (db : Database) → HasSchema db → (name : List ℕ) → IsSound db name → CanBeCounted name (unfinished_rows db name)
queued_read db has name (None, held) = record { jobs = []; are_theirs = none_unfinished db has name held; in_bounds = refl }
queued_read db has name (Some room, held) = record {
  jobs = not_completed (values room.jobs);
  are_theirs = unfinished_kept db has name room held;
  in_bounds = queued_in_bounds (values room.jobs) (room_in_bounds room held.is_room);
}
