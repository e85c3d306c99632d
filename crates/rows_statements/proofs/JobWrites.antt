-- The statements that write the table `job`, the update of a job's standing and a new job: what their texts mean, and
-- what they leave.
use Rattle.std.proofs.Common.{◌≡◌, ℕ, pos, true, List, [], ◌∷◌, drop, codes, Some, refl, subst}
use Rattle.sqlite_tied.specs.Compute.{everything}
use Rattle.sqlite_value.specs.declared.value.Value.TheVariants.{Null, Text, Blob}
use Rattle.sqlite_sql.specs.Term.{Term, lit, col}
use Rattle.sqlite_value.specs.Order.{Row, column}
use Rattle.sqlite_value.specs.Keys.{first_key}
use Rattle.sqlite.specs.Effect.{Database}
use Rattle.sqlite.specs.Listing.{understood}
use Rattle.account_rules.specs.declared.job.Job.{Job}
use Rattle.account_rules.specs.declared.job.Standing.{Standing}
use Rattle.rows_tables.specs.Places.{job_column, row_number, cell}
use Rattle.rows_tables.specs.Tables.{job}
use Rattle.rows_tables.specs.Keyed.{HasSchema, has_key}
use Rattle.rows_tables.specs.Queries.{is_given, shows_of}
use Rattle.rows_tables.specs.Accounts.{job_at}
use Rattle.rows_tables.specs.Cells.{number, job_cells, standing_cells}
use Rattle.rows_tables.proofs.KeyedTables.{job_in, job_key}
use Rattle.rows_tables.proofs.Settings.{AllKept}
use Rattle.rows_tables.proofs.Updates.{IsUpdating}
use Rattle.rows_tables.proofs.Inserts.{IsPutting}
use Rattle.rows_tables.proofs.Columns.{EachIs, each_behind}
use Rattle.rows_tables.proofs.KeyedRows.{has_values}
use Rattle.rows_tables.proofs.RowOfKey.{there_at}
use Rattle.rows_tables.proofs.StatementParts.{cast_integer}

-- its columns keep the cells of a job
pub job_kept : (name : List ℕ) (it : Job) → AllKept job.columns (job_cells name it)
unfolding everything
job_kept name it = (refl, (cast_integer _, (refl, (refl, (cast_integer _, (cast_integer _, (cast_integer _, (cast_integer _, (cast_integer _, (cast_integer _, (cast_integer _, (cast_integer _, (cast_integer _, (refl, (cast_integer _, (cast_integer _, (cast_integer _, tt)))))))))))))))))

-- ---- the update of its standing

abbrev pub standing_text : List ℕ
standing_text = codes "UPDATE job SET state = ?3, open = ?4, stopping = ?5, copies = ?6, impressions = ?7, reserved = ?8, charged = ?9, documents = ?10, rate = ?11, device = ?12, created = ?13, started = ?14, ended = ?15 WHERE account = ?1 AND job = ?2"

-- its number, as the new row's, its key and its texts, and the new values
abbrev pub standing_terms : List Term
standing_terms = col 1 row_number ∷ col 1 job_column.account ∷ col 1 job_column.job ∷ col 1 job_column.name ∷ col 1 job_column.password ∷ col 0 2 ∷ col 0 3 ∷ col 0 4 ∷ col 0 5 ∷ col 0 6 ∷ col 0 7 ∷ col 0 8 ∷ col 0 9 ∷ col 0 10 ∷ col 0 11 ∷ col 0 12 ∷ col 0 13 ∷ col 0 14 ∷ []

abbrev pub standing_tests : List Term
standing_tests = is_given job_column.account 1 ∷ is_given job_column.job 2 ∷ []

abbrev pub standing_given : List ℕ → ℕ → Standing → Row
standing_given name n standing = Text name ∷ number n ∷ standing_cells standing

abbrev pub with_standing : Standing → Row → Row
with_standing standing cells = cell job_column.account cells ∷ cell job_column.job cells ∷ cell job_column.name cells ∷ cell job_column.password cells ∷ standing_cells standing

standing_shows : (name : List ℕ) (n : ℕ) (standing : Standing) (r : Row) → drop 1 (shows_of (col 1 row_number ∷ standing_terms) (standing_given name n standing) r) ≡ column r 0 ∷ with_standing standing (drop 1 r)
standing_shows name n standing [] = refl
standing_shows name n standing (v ∷ r) = refl

pub updates_standing : (name : List ℕ) (n : ℕ) (standing : Standing) → IsUpdating (Text name ∷ number n ∷ []) job_in standing_text standing_tests standing_terms (standing_given name n standing) (with_standing standing)
unfolding understood everything first_key
updates_standing name n standing = record { command = refl; is_plain = (refl, refl); asks = λ r. refl; shows = standing_shows name n standing }

-- the row that is there under the number keeps it
pub standing_keyed : (db : Database) → HasSchema db → (name : List ℕ) (n : ℕ) (it : Job) → job_at db name (pos n) ≡ Some (job_cells name it) → (standing : Standing) → has_key job (Text name ∷ number n ∷ []) (Null ∷ job_cells name (record it { standing = standing })) ≡ true
standing_keyed db has name n it there standing =
    let at = there_at job_in db has (Text name ∷ number n ∷ []) refl (job_key name (pos n)) (refl, (refl, tt)) (job_cells name it) there in
    let begins = each_behind (Text name ∷ number n ∷ []) 0 at.row at.begins in
    let first : EachIs 0 (Text name ∷ number n ∷ []) (job_cells name it) = subst (EachIs 0 (Text name ∷ number n ∷ [])) at.are_cells begins in
    has_values (Text name ∷ number n ∷ []) (Null ∷ job_cells name (record it { standing = standing })) (refl, (refl, tt)) (first.0, (first.1.0, tt))

-- ---- a new one

abbrev pub add_text : List ℕ
add_text = codes "INSERT INTO job (account, job, name, password, state, open, stopping, copies, impressions, reserved, charged, documents, rate, device, created, started, ended) VALUES (?1, ?2, ?3, ?4, ?5, ?6, ?7, ?8, ?9, ?10, ?11, ?12, ?13, ?14, ?15, ?16, ?17)"

abbrev pub add_terms : List Term
add_terms = lit Null ∷ col 0 0 ∷ col 0 1 ∷ col 0 2 ∷ col 0 3 ∷ col 0 4 ∷ col 0 5 ∷ col 0 6 ∷ col 0 7 ∷ col 0 8 ∷ col 0 9 ∷ col 0 10 ∷ col 0 11 ∷ col 0 12 ∷ col 0 13 ∷ col 0 14 ∷ col 0 15 ∷ col 0 16 ∷ []

pub puts_job : (name : List ℕ) (it : Job) → IsPutting (Text name ∷ number it.job ∷ []) (Blob it.name ∷ Blob it.password ∷ standing_cells it.standing) job_in add_text add_terms
unfolding understood everything
puts_job name it = record {
  command = refl;
  is_plain = (refl, refl);
  rows = refl;
  kept = job_kept name it;
  begins = has_values (Text name ∷ number it.job ∷ []) (Null ∷ job_cells name it) (refl, (refl, tt)) (refl, (refl, tt));
}
