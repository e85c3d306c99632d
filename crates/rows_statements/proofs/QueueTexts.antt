-- The walks over an account's jobs in the orders of Get-Jobs: what their texts mean.
use Rattle.std.proofs.Common.{ℕ, ◌++◌, pos, negsuc, false, true, List, [], ◌∷◌, codes, Option, refl}
use Rattle.sqlite_tied.specs.Compute.{everything}
use Rattle.sqlite_value.specs.declared.value.Value.TheVariants.{Int, Text}
use Rattle.sqlite_value.specs.declared.keys.Key.{Key}
use Rattle.sqlite_value.specs.declared.keys.Collation.TheVariants.{Binary}
use Rattle.sqlite_value.specs.Order.{Row}
use Rattle.sqlite_sql.specs.declared.ops.BinaryOp.TheVariants.{Compare}
use Rattle.sqlite_sql.specs.declared.ops.CompareOp.TheVariants.{Eq, Ge}
use Rattle.sqlite_sql.specs.Query.{Query}
use Rattle.sqlite_sql.specs.Term.{Term, lit, col, op2}
use Rattle.sqlite.specs.Listing.{understood}
use Rattle.rows_tables.specs.Places.{job_tree, job_column}
use Rattle.rows_tables.specs.Tables.{room_schema}
use Rattle.rows_tables.specs.Queries.{Means, TakesParams, first_of_table, is_given}
use Rattle.rows_statements.specs.Queues.{limit_number}
use Rattle.rows_statements.proofs.JobRows as job_rows

abbrev pub shows : List Term
shows = job_rows.shows ++ col 1 job_column.job ∷ []

abbrev pub names : List (List ℕ)
names = job_rows.names ++ codes "job" ∷ []

abbrev pub params : List ℕ → Option ℕ → Row
params name limit = Text name ∷ Int (limit_number limit) ∷ []

abbrev pub falling : Key
falling = record { collation = Binary; descending = true }

abbrev pub rising : Key
rising = record { collation = Binary; descending = false }

-- ---- those that have not ended

abbrev pub unfinished_text : List ℕ
unfinished_text = codes "SELECT name, password, state, open, stopping, copies, impressions, reserved, charged, documents, rate, device, created, started, ended, job FROM job WHERE account = ?1 AND ended = -1 ORDER BY job LIMIT ?2"

abbrev pub unfinished_tests : List Term
unfinished_tests = is_given job_column.account 1 ∷ op2 (Compare Eq Binary) (col 1 job_column.ended) (lit (Int (negsuc 0))) ∷ []

abbrev pub unfinished_order : List (Term × Key)
unfinished_order = (col 1 job_column.job, rising) ∷ []

abbrev pub unfinished_query : Query
unfinished_query = first_of_table job_tree unfinished_tests shows unfinished_order (col 0 1)

pub unfinished_is : Means room_schema unfinished_text unfinished_query names 2
unfolding understood everything
unfinished_is = record { is = refl; lists_nothing = refl; is_plain = (refl, refl); takes = refl; is_whole = refl }

pub unfinished_takes : (name : List ℕ) (limit : Option ℕ) → TakesParams room_schema unfinished_query (params name limit) 2
unfinished_takes name limit = record { given = refl; typed = refl }

-- ---- those that have

abbrev pub ended_text : List ℕ
ended_text = codes "SELECT name, password, state, open, stopping, copies, impressions, reserved, charged, documents, rate, device, created, started, ended, job FROM job WHERE account = ?1 AND ended >= 0 ORDER BY ended DESC, job DESC LIMIT ?2"

abbrev pub ended_tests : List Term
ended_tests = is_given job_column.account 1 ∷ op2 (Compare Ge Binary) (col 1 job_column.ended) (lit (Int (pos 0))) ∷ []

abbrev pub ended_order : List (Term × Key)
ended_order = (col 1 job_column.ended, falling) ∷ (col 1 job_column.job, falling) ∷ []

abbrev pub ended_query : Query
ended_query = first_of_table job_tree ended_tests shows ended_order (col 0 1)

pub ended_is : Means room_schema ended_text ended_query names 2
unfolding understood everything
ended_is = record { is = refl; lists_nothing = refl; is_plain = (refl, refl); takes = refl; is_whole = refl }

pub ended_takes : (name : List ℕ) (limit : Option ℕ) → TakesParams room_schema ended_query (params name limit) 2
ended_takes name limit = record { given = refl; typed = refl }
