-- The walks over the keys of an account's rows: what their texts mean, and that each key is told.
use Rattle.std.proofs.Common.{◌≡◌, ℕ, ℤ, pos, Bool, List, [], ◌∷◌, ◌++◌, map, filter, drop, codes, Some, refl, sym, ap, subst, ◌∙◌, inl, inr}
use Rattle.sqlite_tied.specs.Compute.{everything}
use Rattle.sqlite_value.specs.declared.value.Value.TheVariants.{Int, Null, Text}
use Rattle.sqlite_value.specs.Order.{Row, column}
use Rattle.sqlite_value.specs.Keys.{first_key, plain}
use Rattle.sqlite_sql.specs.Term.{Term, col}
use Rattle.sqlite_schema.specs.Rules.{agree}
use Rattle.sqlite_rules.specs.Lists.{Has}
use Rattle.sqlite_rules.proofs.ListLemmas.{has_kept, has_left, has_right}
use Rattle.sqlite_rules.proofs.ProbeLemmas.{mapped_has}
use Rattle.sqlite.specs.Effect.{Database}
use Rattle.sqlite.specs.Listing.{understood}
use Rattle.rows_tables.specs.Places.{job_tree, document_tree, grants_tree, job_column, document_column, grant_column, account_places, cell}
use Rattle.rows_tables.specs.Tables.{room_schema}
use Rattle.rows_tables.specs.Keyed.{HasSchema}
use Rattle.rows_tables.specs.Queries.{Means, TakesParams, of_table, is_given, shown_of}
use Rattle.rows_tables.specs.Accounts.{document_at, grant_at, job_at}
use Rattle.rows_tables.proofs.KeyedRows.{has_values}
use Rattle.rows_tables.proofs.KeyedTables.{document_in, document_key, grants_in, grants_key, job_in, job_key}
use Rattle.rows_tables.proofs.Reading.{without_number}
use Rattle.rows_tables.proofs.RowOfKey.{there_at}
use Rattle.rows_checks.specs.Checks.{ListsNumber, ListsPlace, all_documents, place_cells}
use Rattle.rows_statements.specs.Walks.{GathersAll}
use Rattle.rows_statements.specs.SoundRows.{grant_rows, job_rows}
use Rattle.rows_statements.specs.Totals.{number_cell}
use Rattle.rows_statements.proofs.RowTotals.{of_their_cells}

abbrev pub key_tests : List Term
key_tests = is_given job_column.account 1 ∷ []

abbrev pub number_shows : List Term
number_shows = col 1 job_column.job ∷ []

abbrev pub place_shows : List Term
place_shows = col 1 document_column.job ∷ col 1 document_column.number ∷ []

abbrev pub jobs_text : List ℕ
jobs_text = codes "SELECT job FROM job WHERE account = ?1"

abbrev pub jobs_names : List (List ℕ)
jobs_names = codes "job" ∷ []

pub jobs_is : Means room_schema jobs_text (of_table job_tree key_tests number_shows []) jobs_names 1
unfolding understood everything
jobs_is = record { is = refl; lists_nothing = refl; is_plain = (refl, refl); takes = refl; is_whole = refl }

pub jobs_takes : (name : List ℕ) → TakesParams room_schema (of_table job_tree key_tests number_shows []) (Text name ∷ []) 1
jobs_takes name = record { given = refl; typed = refl }

abbrev pub months_text : List ℕ
months_text = codes "SELECT month FROM grants WHERE account = ?1"

abbrev pub months_names : List (List ℕ)
months_names = codes "month" ∷ []

pub months_is : Means room_schema months_text (of_table grants_tree key_tests number_shows []) months_names 1
unfolding understood everything
months_is = record { is = refl; lists_nothing = refl; is_plain = (refl, refl); takes = refl; is_whole = refl }

pub months_takes : (name : List ℕ) → TakesParams room_schema (of_table grants_tree key_tests number_shows []) (Text name ∷ []) 1
months_takes name = record { given = refl; typed = refl }

abbrev pub places_text : List ℕ
places_text = codes "SELECT job, number FROM document WHERE account = ?1"

abbrev pub places_names : List (List ℕ)
places_names = codes "job" ∷ codes "number" ∷ []

pub places_is : Means room_schema places_text (of_table document_tree key_tests place_shows []) places_names 1
unfolding understood everything
places_is = record { is = refl; lists_nothing = refl; is_plain = (refl, refl); takes = refl; is_whole = refl }

pub places_takes : (name : List ℕ) → TakesParams room_schema (of_table document_tree key_tests place_shows []) (Text name ∷ []) 1
places_takes name = record { given = refl; typed = refl }

-- ---- what is shown

cells_numbered : (r : Row) → column r job_column.job ∷ [] ≡ number_cell (drop 1 r)
cells_numbered [] = refl
cells_numbered (v ∷ r) = refl

cells_placed : (r : Row) → column r document_column.job ∷ column r document_column.number ∷ [] ≡ place_cells (drop 1 r)
cells_placed [] = refl
cells_placed (v ∷ r) = refl

pub jobs_shown : (name : List ℕ) (db : Database) → shown_of job_tree key_tests number_shows (Text name ∷ []) db.trees ≡ map number_cell (job_rows db name)
unfolding first_key
jobs_shown name db = of_their_cells (λ r. column r job_column.job ∷ []) number_cell cells_numbered _

pub months_shown : (name : List ℕ) (db : Database) → shown_of grants_tree key_tests number_shows (Text name ∷ []) db.trees ≡ map number_cell (grant_rows db name)
unfolding first_key
months_shown name db = of_their_cells (λ r. column r grant_column.month ∷ []) number_cell cells_numbered _

pub places_shown : (name : List ℕ) (db : Database) → shown_of document_tree key_tests place_shows (Text name ∷ []) db.trees ≡ map place_cells (all_documents db name)
unfolding first_key
places_shown name db = of_their_cells (λ r. column r document_column.job ∷ column r document_column.number ∷ []) place_cells cells_placed _

-- ---- each row of a key is among those of the account

module _ (db : Database) (has : HasSchema db) (name : List ℕ) where
  abbrev of_name : Row → Bool
  of_name row = agree plain account_places row account_places (Null ∷ Text name ∷ [])

  pub job_listed : (z : ℤ) (cells : Row) → job_at db name z ≡ Some cells → Has (job_rows db name) cells × (cell job_column.job cells ≡ Int z)
  job_listed z cells is =
      let it = there_at job_in db has (Text name ∷ Int z ∷ []) refl (job_key name z) (refl, (refl, tt)) cells is in (
        subst (Has (job_rows db name)) it.are_cells (mapped_has (drop 1) (filter of_name (db.trees job_tree)) it.row (has_kept of_name (db.trees job_tree) it.row it.there (has_values (Text name ∷ []) it.row (refl, tt) (it.begins.0, tt)))),
        ap (λ r. column r 1) (sym it.are_cells) ∙ without_number it.row 1 ∙ it.begins.1.0,
      )

  pub grant_listed : (z : ℤ) (cells : Row) → grant_at db name z ≡ Some cells → Has (grant_rows db name) cells × (cell grant_column.month cells ≡ Int z)
  grant_listed z cells is =
      let it = there_at grants_in db has (Text name ∷ Int z ∷ []) refl (grants_key name z) (refl, (refl, tt)) cells is in (
        subst (Has (grant_rows db name)) it.are_cells (mapped_has (drop 1) (filter of_name (db.trees grants_tree)) it.row (has_kept of_name (db.trees grants_tree) it.row it.there (has_values (Text name ∷ []) it.row (refl, tt) (it.begins.0, tt)))),
        ap (λ r. column r 1) (sym it.are_cells) ∙ without_number it.row 1 ∙ it.begins.1.0,
      )

  pub document_listed : (y z : ℤ) (cells : Row) → document_at db name y z ≡ Some cells → Has (all_documents db name) cells × (cell document_column.job cells ≡ Int y) × (cell document_column.number cells ≡ Int z)
  document_listed y z cells is =
      let it = there_at document_in db has (Text name ∷ Int y ∷ Int z ∷ []) refl (document_key name y z) (refl, (refl, (refl, tt))) cells is in (
        subst (Has (all_documents db name)) it.are_cells (mapped_has (drop 1) (filter of_name (db.trees document_tree)) it.row (has_kept of_name (db.trees document_tree) it.row it.there (has_values (Text name ∷ []) it.row (refl, tt) (it.begins.0, tt)))),
        ap (λ r. column r 1) (sym it.are_cells) ∙ without_number it.row 1 ∙ it.begins.1.0,
        ap (λ r. column r 2) (sym it.are_cells) ∙ without_number it.row 2 ∙ it.begins.1.1.0,
      )

-- ---- each row that is gathered is told

still_there : {X : Type 0} (xs ys : List X) (x : X) → ys ≡ xs → Has xs x → Has ys x
still_there xs ys x same h = subst (λ l. Has l x) (sym same) h

numbers_stay : (rows : List Row) (first last : List ℕ) (n : ℕ) → GathersAll ListsNumber first rows last → Has first n → Has last n
numbers_stay [] first last n same h = subst (λ l. Has l n) same h
numbers_stay (row ∷ rows) first last n (next, one, more) h = numbers_stay rows next last n more (still_there (first ++ one.number ∷ []) next n one.added (has_left first (one.number ∷ []) n h))

pub number_told : (rows : List Row) (first last : List ℕ) (row : Row) → GathersAll ListsNumber first rows last → Has rows row → (n : ℕ) × Has last n × (column row 0 ≡ Int (pos n))
number_told [] first last row gathered h = absurd h
number_told (other ∷ rows) first last row (next, one, more) (inl same) =
    (one.number, numbers_stay rows next last one.number more (still_there (first ++ one.number ∷ []) next one.number one.added (has_right first (one.number ∷ []) one.number (inl refl))), ap (λ r. column r 0) same ∙ one.told)
number_told (other ∷ rows) first last row (next, one, more) (inr h) = number_told rows next last row more h

places_stay : (rows : List Row) (first last : List (ℕ × ℕ)) (place : ℕ × ℕ) → GathersAll ListsPlace first rows last → Has first place → Has last place
places_stay [] first last place same h = subst (λ l. Has l place) same h
places_stay (row ∷ rows) first last place (next, one, more) h = places_stay rows next last place more (still_there (first ++ one.place ∷ []) next place one.added (has_left first (one.place ∷ []) place h))

pub place_told : (rows : List Row) (first last : List (ℕ × ℕ)) (row : Row) → GathersAll ListsPlace first rows last → Has rows row → (place : ℕ × ℕ) × Has last place × (column row 0 ≡ Int (pos place.0)) × (column row 1 ≡ Int (pos place.1))
place_told [] first last row gathered h = absurd h
place_told (other ∷ rows) first last row (next, one, more) (inl same) =
    (one.place, places_stay rows next last one.place more (still_there (first ++ one.place ∷ []) next one.place one.added (has_right first (one.place ∷ []) one.place (inl refl))), ap (λ r. column r 0) same ∙ one.of_job, ap (λ r. column r 1) same ∙ one.told)
place_told (other ∷ rows) first last row (next, one, more) (inr h) = place_told rows next last row more h
