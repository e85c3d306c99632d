-- The rows of an account are those of the room that they hold, each once.
use Rattle.std.proofs.Common.{◌≡◌, ℕ, ℤ, List, [], ◌∷◌, map, codes, Some, option_map, refl, sym, ap, subst}
use Rattle.std.specs.List.Sorted.{IsPermutation}
use Rattle.std.specs.Ordering.{nat_cmp}
use Rattle.std.specs.FinMap.{FinMap, entries, get, values}
use Rattle.sqlite_value.specs.declared.value.Value.TheVariants.{Int, Text}
use Rattle.sqlite_value.specs.Order.{Row, column}
use Rattle.sqlite_trees.proofs.ListLemmas.{map-map}
use Rattle.sqlite_rules.specs.Lists.{Has}
use Rattle.sqlite.specs.Effect.{Database}
use Rattle.account_rules.specs.declared.job.Job.{Job}
use Rattle.account_state.specs.Rooms.{RoomValue}
use Rattle.rows_tables.specs.Places.{job_tree, grants_tree, job_column, grant_column, account_places}
use Rattle.rows_tables.specs.Tables.{job, grants}
use Rattle.rows_tables.specs.Keyed.{HasSchema, rows_under}
use Rattle.rows_tables.specs.Cells.{number, job_cells, grant_cells}
use Rattle.rows_tables.specs.Accounts.{job_at, under, HoldsRoom, HoldsNothing}
use Rattle.rows_tables.proofs.KeyedRows.{integer_at}
use Rattle.rows_tables.proofs.KeyedTables.{job_in, job_key, grants_in, grants_key}
use Rattle.rows_tables.proofs.MapRows.{rows_of_map}
use Rattle.rows_tables.proofs.RowsUnder.{no_rows}

module _ (db : Database) (has : HasSchema db) (name : List ℕ) where
  job_number : (r : Row) → Has (db.trees job_tree) r → (n : ℤ) × (column r job_column.job ≡ Int n)
  job_number r there = integer_at job_in db has r there 1 (codes "job") refl

  grant_month : (r : Row) → Has (db.trees grants_tree) r → (n : ℤ) × (column r grant_column.month ≡ Int n)
  grant_month r there = integer_at grants_in db has r there 1 (codes "month") refl

  pub no_jobs : HoldsNothing db name → IsPermutation (rows_under job account_places (Text name ∷ []) db) []
  no_jobs held = no_rows (Text name ∷ []) Int job_in (job_key name) (refl, tt) (λ n. refl) db has job_number held.no_job

  pub no_grants : HoldsNothing db name → IsPermutation (rows_under grants account_places (Text name ∷ []) db) []
  no_grants held = no_rows (Text name ∷ []) Int grants_in (grants_key name) (refl, tt) (λ n. refl) db has grant_month held.no_grant

  -- the rows of jobs that stand under their numbers
  pub rows_of_job_map : (jobs : FinMap nat_cmp Job) → ((n : ℕ) (it : Job) → get jobs n ≡ Some it → it.job ≡ n) → ((z : ℤ) → job_at db name z ≡ option_map (job_cells name) (under jobs z))
      → IsPermutation (rows_under job account_places (Text name ∷ []) db) (map (job_cells name) (values jobs))
  rows_of_job_map jobs numbered are =
      subst (IsPermutation (rows_under job account_places (Text name ∷ []) db)) (sym (map-map (job_cells name) (λ (e : ℕ × Job). e.1) (entries jobs)))
      (rows_of_map (Text name ∷ []) job_in (job_key name) (refl, tt) db has job_number jobs (λ _ it. job_cells name it) (λ k it is. ap number (numbered k it is)) are)

  module _ (room : RoomValue) (held : HoldsRoom db name room) where
    -- the account's jobs
    pub rows_of_jobs : IsPermutation (rows_under job account_places (Text name ∷ []) db) (map (job_cells name) (values room.jobs))
    rows_of_jobs = rows_of_job_map room.jobs (λ n it is. (held.is_room.jobs n it is).numbered) held.rows.job_rows

    -- and its grants
    pub rows_of_grants : IsPermutation (rows_under grants account_places (Text name ∷ []) db) (map (λ (e : ℕ × ℕ). grant_cells name e.0 e.1) (entries room.grants))
    rows_of_grants = rows_of_map (Text name ∷ []) grants_in (grants_key name) (refl, tt) db has grant_month room.grants (grant_cells name) (λ k pages is. refl) held.rows.grant_rows
