-- The walk over the jobs of an account that have not ended: what its text means.
use Rattle.std.proofs.Common.{ℕ, negsuc, List, [], ◌∷◌, codes, refl}
use Rattle.sqlite_tied.specs.Compute.{everything}
use Rattle.sqlite_value.specs.declared.value.Value.TheVariants.{Int, Text}
use Rattle.sqlite_value.specs.declared.keys.Collation.TheVariants.{Binary}
use Rattle.sqlite_sql.specs.declared.ops.BinaryOp.TheVariants.{Compare}
use Rattle.sqlite_sql.specs.declared.ops.CompareOp.TheVariants.{Eq}
use Rattle.sqlite_sql.specs.Term.{Term, lit, col, op2}
use Rattle.sqlite.specs.Listing.{understood}
use Rattle.rows_tables.specs.Places.{job_tree, job_column}
use Rattle.rows_tables.specs.Tables.{room_schema}
use Rattle.rows_tables.specs.Queries.{Means, TakesParams, of_table, is_given}
use Rattle.rows_statements.proofs.TallyWalk.{tally_shows, tally_names}

abbrev pub queued_text : List ℕ
queued_text = codes "SELECT state, reserved, charged FROM job WHERE account = ?1 AND ended = -1"

abbrev pub queued_tests : List Term
queued_tests = is_given job_column.account 1 ∷ op2 (Compare Eq Binary) (col 1 job_column.ended) (lit (Int (negsuc 0))) ∷ []

pub queued_is : Means room_schema queued_text (of_table job_tree queued_tests tally_shows []) tally_names 1
unfolding understood everything
queued_is = record { is = refl; lists_nothing = refl; is_plain = (refl, refl); takes = refl; is_whole = refl }

pub queued_takes : (name : List ℕ) → TakesParams room_schema (of_table job_tree queued_tests tally_shows []) (Text name ∷ []) 1
queued_takes name = record { given = refl; typed = refl }
