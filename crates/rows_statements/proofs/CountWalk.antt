-- The walk over the index of an account's jobs that have not ended: what its text means, and how many
-- it counts.
use Rattle.std.proofs.Common.{◌≡◌, ℕ, ◌+◌, ◌<◌, ◌≤◌, List, [], ◌∷◌, ◌++◌, length, map, drop, codes, Some, None, refl, sym, ap, subst, ◌∙◌, arith}
use Rattle.std.specs.FinMap.{values}
use Rattle.std.proofs.lemmas.List.{length-append, length-map}
use Rattle.std.proofs.lemmas.List.Sums.{length-filter}
use Rattle.std.proofs.lemmas.List.Sorted.{length_permutation}
use Rattle.sqlite_tied.specs.Compute.{everything}
use Rattle.sqlite_value.specs.declared.value.Value.TheVariants.{Text}
use Rattle.sqlite_value.specs.Order.{Row, column}
use Rattle.sqlite_sql.specs.Term.{Term, col}
use Rattle.sqlite.specs.Effect.{Database}
use Rattle.sqlite.specs.Listing.{understood}
use Rattle.account_rules.specs.Limits.{most_unfinished}
use Rattle.account_rules.specs.JobStates.{is_unfinished}
use Rattle.account_rules.specs.declared.job.Job.{Job}
use Rattle.account_state.specs.Queues.{not_completed}
use Rattle.account_state.specs.Rooms.{RoomValue}
use Rattle.account_state.specs.RoomRules.{unfinished_count}
use Rattle.rows_tables.specs.Places.{job_tree, job_column}
use Rattle.rows_tables.specs.Tables.{room_schema}
use Rattle.rows_tables.specs.Keyed.{HasSchema}
use Rattle.rows_tables.specs.Queries.{Means, TakesParams, of_table, shown_of}
use Rattle.rows_tables.specs.Cells.{job_cells}
use Rattle.rows_tables.specs.Accounts.{HoldsRoom, IsSound}
use Rattle.rows_statements.specs.Totals.{counts_one, number_cell, refuses_one}
use Rattle.rows_statements.specs.SoundRows.{unfinished_rows}
use Rattle.rows_statements.specs.Walks.{GathersAll, WalksAll, RefusesOne}
use Rattle.rows_statements.specs.declared.unfinished.Unfinished.{Unfinished}
use Rattle.rows_statements.proofs.QueueRows.{unfinished_kept, none_unfinished}
use Rattle.rows_statements.proofs.QueuedText.{queued_tests}
use Rattle.rows_statements.proofs.QueuedWalk.{told_unfinished}

abbrev pub count_text : List ℕ
count_text = codes "SELECT job FROM job WHERE account = ?1 AND ended = -1"

abbrev pub count_shows : List Term
count_shows = col 1 job_column.job ∷ []

abbrev pub count_names : List (List ℕ)
count_names = codes "job" ∷ []

pub count_is : Means room_schema count_text (of_table job_tree queued_tests count_shows []) count_names 1
unfolding understood everything
count_is = record { is = refl; lists_nothing = refl; is_plain = (refl, refl); takes = refl; is_whole = refl }

pub count_takes : (name : List ℕ) → TakesParams room_schema (of_table job_tree queued_tests count_shows []) (Text name ∷ []) 1
count_takes name = record { given = refl; typed = refl }

cells_numbered : (r : Row) → column r job_column.job ∷ [] ≡ number_cell (drop 1 r)
cells_numbered [] = refl
cells_numbered (v ∷ r) = refl

pub count_shown : (name : List ℕ) (db : Database) → shown_of job_tree queued_tests count_shows (Text name ∷ []) db.trees ≡ map number_cell (unfinished_rows db name)
count_shown = told_unfinished (λ r. column r job_column.job ∷ []) number_cell cells_numbered

-- ---- how many are gathered

abbrev pub step : Unfinished → Row → Unfinished → Type 0
step first row last = counts_one first.count row last.count

abbrev pub refuses : Unfinished → Row → Type 0
refuses first row = refuses_one first.count row

counts_up : (first last : Unfinished) (rows : List Row) → GathersAll step first rows last → last.count ≡ first.count + length rows
counts_up first last [] same = omega (arith, ap (λ (u : Unfinished). u.count) same)
counts_up first last (r ∷ rows) (next, one, more) = omega (arith, counts_up next last rows more, one.0)

pub count_within : (first last : Unfinished) (rows : List Row) → GathersAll step first rows last → first.count ≤ most_unfinished → last.count ≤ most_unfinished
count_within first last [] same within = subst (λ (u : Unfinished). u.count ≤ most_unfinished) same within
count_within first last (r ∷ rows) (next, one, more) within = count_within next last rows more one.1

module _ (rows : List Row) (first : Unfinished) (none : first.count ≡ 0) where
  abbrev shown : List Row
  shown = map number_cell rows

  pub all_counted : (last : Unfinished) → WalksAll step refuses shown first last → last.count ≡ length rows
  all_counted last (given, same, gathered) = omega (arith, none, counts_up first last given gathered, length_permutation shown given same, length-map rows number_cell)

  pub too_many : RefusesOne step refuses shown first → most_unfinished < length rows
  too_many it =
      let all = (it.given ++ it.row ∷ []) ++ it.more in
      omega (arith, none, it.refused, counts_up first it.so_far it.given it.gathered, length_permutation shown all it.are_shown, length-map rows number_cell, length-append (it.given ++ it.row ∷ []) it.more, length-append it.given (it.row ∷ []))

-- ---- the rows of a room

pub count_of_room : (db : Database) → HasSchema db → (name : List ℕ) (room : RoomValue) → HoldsRoom db name room → length (unfinished_rows db name) ≡ unfinished_count room
count_of_room db has name room held =
    let queue = not_completed (values room.jobs) in
    sym (length_permutation (unfinished_rows db name) (map (job_cells name) queue) (unfinished_kept db has name room held))
    ∙ length-map queue (job_cells name) ∙ length-filter (λ (it : Job). is_unfinished it.standing.state) (values room.jobs)

-- sound rows are few
pub few_read : (db : Database) → HasSchema db → (name : List ℕ) → IsSound db name → length (unfinished_rows db name) ≤ most_unfinished
few_read db has name (None, held) = omega (arith, length_permutation (unfinished_rows db name) [] (none_unfinished db has name held))
few_read db has name (Some room, held) = omega (arith, count_of_room db has name room held, held.is_room.few_unfinished)
