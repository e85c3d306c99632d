-- The removal of a job's documents: what its text means, and which rows it asks for.
use Rattle.std.proofs.Common.{◌≡◌, ℕ, true, List, [], ◌∷◌, codes, refl, sym, ◌∙◌, inl, inr}
use Rattle.std.proofs.lemmas.Bool.{cases_Bool, and_parts, and_from}
use Rattle.sqlite_tied.specs.Compute.{everything}
use Rattle.sqlite_value.specs.declared.value.Value.TheVariants.{Null, Text}
use Rattle.sqlite_value.specs.Order.{Row}
use Rattle.sqlite_value.specs.Keys.{plain, first_key}
use Rattle.sqlite_sql.specs.Term.{Term, col}
use Rattle.sqlite_schema.specs.declared.command.Command.{Command}
use Rattle.sqlite_schema.specs.declared.command.Command.TheVariants.{Delete}
use Rattle.sqlite_schema.specs.Rules.{agree}
use Rattle.sqlite_rules.proofs.KeyLemmas.{agree_back, agree_chain}
use Rattle.sqlite.specs.Listing.{understood}
use Rattle.sqlite.proofs.Callers.{IsPlain, command_of}
use Rattle.rows_tables.specs.Places.{document_tree, document_column, row_number, job_places}
use Rattle.rows_tables.specs.Tables.{room_schema, document}
use Rattle.rows_tables.specs.Keyed.{has_key}
use Rattle.rows_tables.specs.Queries.{of_table, is_given, passes}
use Rattle.rows_tables.specs.Cells.{number}

abbrev pub remove_text : List ℕ
remove_text = codes "DELETE FROM document WHERE account = ?1 AND job = ?2"

abbrev pub remove_tests : List Term
remove_tests = is_given document_column.account 1 ∷ is_given document_column.job 2 ∷ []

abbrev pub remove_command : Command
remove_command = Delete 3 (record { lets = []; body = of_table document_tree remove_tests (col 1 row_number ∷ []) [] })

pub remove_is : command_of (understood room_schema remove_text) ≡ remove_command
unfolding understood everything
remove_is = refl

pub remove_plain : IsPlain (understood room_schema remove_text)
unfolding understood everything
remove_plain = (refl, refl)

-- two rows that agree on the places agree alike with a third
alike : (places : List ℕ) (a b c : Row) → agree plain places a places b ≡ true → agree plain places a places c ≡ agree plain places b places c
alike places a b c same = elim (cases_Bool (agree plain places b places c)) [
  | inl is ↦ agree_chain plain places places places a b c same is ∙ sym is
  | inr isnt ↦ elim (cases_Bool (agree plain places a places c)) [
    | inl is ↦ absurd (let other = agree_chain plain places places places b a c (agree_back plain places places a b same) is in cc)
    | inr other ↦ other ∙ sym isnt
  ]
]

abbrev pub meant_by : List ℕ → ℕ → Row
meant_by name job = Text name ∷ number job ∷ []

pub meant : (name : List ℕ) (job : ℕ) (key x : Row) → has_key document key x ≡ true → passes remove_tests (meant_by name job) x ≡ agree plain job_places (Null ∷ key) job_places (Null ∷ meant_by name job)
unfolding first_key
meant name job key x is =
    let parts = and_parts _ _ is in
    let first : agree plain job_places x job_places (Null ∷ key) ≡ true = and_from _ _ parts.0 (and_from _ _ (and_parts _ _ parts.1).0 refl) in
    alike job_places x (Null ∷ key) (Null ∷ meant_by name job) first
