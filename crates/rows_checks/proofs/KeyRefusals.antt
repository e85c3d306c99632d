-- The keys of sound rows are told: a walk over them refuses none.
use Rattle.std.proofs.Common.{◌≡◌, ℕ, ◌<◌, ◌≤◌, ◌^◌, ℤ, pos, negsuc, Bool, true, ◌&&◌, nat_le, is_some, List, [], ◌∷◌, map, filter, drop, codes, Option, Some, None, option_map, refl, sym, ap, ◌∙◌, arith}
use Rattle.std.specs.FinMap.{get}
use Rattle.std.proofs.lemmas.Bool.Decides.{nat_tests}
use Rattle.std.proofs.lemmas.Bool.{true≢false}
use Rattle.sqlite_value.specs.declared.value.Value.TheVariants.{Int, Null, Text}
use Rattle.sqlite_value.specs.Order.{Row, column}
use Rattle.sqlite_value.specs.Keys.{plain}
use Rattle.sqlite_schema.specs.Rules.{agree}
use Rattle.sqlite_rules.specs.Lists.{Has}
use Rattle.sqlite_rules.proofs.ListLemmas.{has_filtered}
use Rattle.sqlite_rules.proofs.ProbeLemmas.{has_mapped}
use Rattle.sqlite.specs.Effect.{Database}
use Rattle.account_rules.specs.JobStates.{is_unfinished}
use Rattle.account_rules.specs.declared.job.Document.{Document}
use Rattle.account_rules.specs.declared.job.Job.{Job}
use Rattle.account_state.specs.Rooms.{RoomValue}
use Rattle.account_state.specs.RoomRules.{has_document}
use Rattle.rows_tables.specs.Accounts.{document_at, grant_at, job_at, HoldsRoom, IsSound}
use Rattle.rows_tables.specs.Cells.{document_cells, grant_cells, job_cells}
use Rattle.rows_tables.specs.Keyed.{HasSchema}
use Rattle.rows_tables.proofs.KeyedRows.{integer_at, key_begins, whole_in}
use Rattle.rows_tables.proofs.KeyedTables.{document_in, document_key, grants_in, grants_key, job_in, job_key}
use Rattle.rows_tables.specs.Places.{job_tree, document_tree, grants_tree, job_column, document_column, grant_column, account_places, cell}
use Rattle.rows_tables.specs.Tables.{document as document_table}
use Rattle.rows_tables.proofs.Columns.{exact_front}
use Rattle.rows_tables.proofs.RowOfKey.{at_its_key}
use Rattle.rows_tables.proofs.RowsUnder.{row_under}
use Rattle.rows_checks.specs.Checks.{ListsNumber, ListsPlace, all_documents, place_cells, refuses_number, refuses_place}
use Rattle.rows_statements.specs.Walks.{RefusesOne}
use Rattle.rows_statements.specs.SoundRows.{grant_rows, job_rows}
use Rattle.rows_statements.specs.Totals.{number_cell}
use Rattle.rows_checks.proofs.KeyWalks.{document_listed, grant_listed, job_listed}
use Rattle.rows_statements.proofs.RowTotals.{refused_there}

module _ (db : Database) (has : HasSchema db) (name : List ℕ) where
  abbrev of_name : Row → Bool
  of_name row = agree plain account_places row account_places (Null ∷ Text name ∷ [])

  -- a row of the account stands under its number
  pub job_of_row : (cells : Row) → Has (job_rows db name) cells → (z : ℤ) × (job_at db name z ≡ Some cells) × (cell job_column.job cells ≡ Int z)
  job_of_row cells h =
      let r = has_mapped (drop 1) (filter of_name (db.trees job_tree)) cells h in
      let there = has_filtered of_name (db.trees job_tree) r.0 r.1 in
      let ends = λ (row : Row) (h : Has (db.trees job_tree) row). integer_at job_in db has row h 1 (codes "job") refl in
      let at = row_under (Text name ∷ []) Int job_in (job_key name) (refl, tt) (λ n. refl) db has ends r.0 there.0 there.1 in
      (at.0, at.1 ∙ ap Some (sym r.2), number_of at.0 cells r.0 (sym r.2) at.1)
    where
      number_of : (z : ℤ) (cells row : Row) → drop 1 row ≡ cells → job_at db name z ≡ Some (drop 1 row) → cell job_column.job cells ≡ Int z
      number_of z cells row same is = sym (ap (λ r. column r 1) same) ∙ (job_listed db has name z (drop 1 row) is).1

  pub grant_of_row : (cells : Row) → Has (grant_rows db name) cells → (z : ℤ) × (grant_at db name z ≡ Some cells) × (cell grant_column.month cells ≡ Int z)
  grant_of_row cells h =
      let r = has_mapped (drop 1) (filter of_name (db.trees grants_tree)) cells h in
      let there = has_filtered of_name (db.trees grants_tree) r.0 r.1 in
      let ends = λ (row : Row) (h : Has (db.trees grants_tree) row). integer_at grants_in db has row h 1 (codes "month") refl in
      let at = row_under (Text name ∷ []) Int grants_in (grants_key name) (refl, tt) (λ n. refl) db has ends r.0 there.0 there.1 in
      let is = at.1 ∙ ap Some (sym r.2) in
      (at.0, is, (grant_listed db has name at.0 cells is).1)

  -- a row of a document stands under the numbers of its job and of it
  pub document_of_row : (cells : Row) → Has (all_documents db name) cells → (y : ℤ) × (z : ℤ) × (document_at db name y z ≡ Some cells) × (cell document_column.job cells ≡ Int y) × (cell document_column.number cells ≡ Int z)
  document_of_row cells h =
      let r = has_mapped (drop 1) (filter of_name (db.trees document_tree)) cells h in
      let there = has_filtered of_name (db.trees document_tree) r.0 r.1 in
      let y = integer_at document_in db has r.0 there.0 1 (codes "job") refl in
      let z = integer_at document_in db has r.0 there.0 2 (codes "number") refl in
      let begins = key_begins document_table.columns (Text name ∷ []) [] r.0 (exact_front document_table.columns (Text name ∷ []) (Int y.0 ∷ Int z.0 ∷ []) (document_key name y.0 z.0)) (whole_in document_in db has r.0 there.0).typed there.1 in
      let is = at_its_key document_in db has (Text name ∷ Int y.0 ∷ Int z.0 ∷ []) refl (document_key name y.0 z.0) (refl, (refl, (refl, tt))) r.0 there.0 (begins.0, (y.1, (z.1, tt))) ∙ ap Some (sym r.2) in
      let listed = document_listed db has name y.0 z.0 cells is in
      (y.0, z.0, is, listed.1, listed.2)

  module _ (room : RoomValue) (held : HoldsRoom db name room) where
    pub jobs_told : (first : List ℕ) → RefusesOne ListsNumber (λ _ row. refuses_number row) (map number_cell (job_rows db name)) first → ⊥
    jobs_told first it =
        let shown = has_mapped number_cell (job_rows db name) it.row (refused_there ListsNumber (λ _ row. refuses_number row) (map number_cell (job_rows db name)) first it) in
        let at = job_of_row shown.0 shown.1 in
        of at.0 shown.0 shown.2 at.1 at.2
      where
        of : (z : ℤ) (cells : Row) → it.row ≡ number_cell cells → job_at db name z ≡ Some cells → cell job_column.job cells ≡ Int z → ⊥
        of (negsuc n) cells same is numbered = let no : None ≡ Some cells = sym (held.rows.job_rows (negsuc n)) ∙ is in absurd cc
        of (pos n) cells same is numbered = by_job (get room.jobs n) refl
          where
            by_job : (o : Option Job) → get room.jobs n ≡ o → ⊥
            by_job None e = let no : None ≡ Some cells = sym (ap (option_map (job_cells name)) e) ∙ sym (held.rows.job_rows (pos n)) ∙ is in absurd cc
            by_job (Some job) e =
                let below = (held.is_room.jobs n job e).below_next in
                let next = held.is_room.next_in_range in
                it.refused n (omega (arith, below, next)) (ap (λ r. column r 0) same ∙ numbered)

    months_told_of : (first : List ℕ) → RefusesOne ListsNumber (λ _ row. refuses_number row) (map number_cell (grant_rows db name)) first → ⊥
    months_told_of first it =
        let shown = has_mapped number_cell (grant_rows db name) it.row (refused_there ListsNumber (λ _ row. refuses_number row) (map number_cell (grant_rows db name)) first it) in
        let at = grant_of_row shown.0 shown.1 in
        of at.0 shown.0 shown.2 at.1 at.2
      where
        of : (z : ℤ) (cells : Row) → it.row ≡ number_cell cells → grant_at db name z ≡ Some cells → cell grant_column.month cells ≡ Int z → ⊥
        of (negsuc n) cells same is numbered = let no : None ≡ Some cells = sym (held.rows.grant_rows (negsuc n)) ∙ is in absurd cc
        of (pos n) cells same is numbered = by_grant (get room.grants n) refl
          where
            by_grant : (o : Option ℕ) → get room.grants n ≡ o → ⊥
            by_grant None e = let no : None ≡ Some cells = sym (ap (option_map (grant_cells name n)) e) ∙ sym (held.rows.grant_rows (pos n)) ∙ is in absurd cc
            by_grant (Some pages) e =
                let to_last = (held.is_room.grants n pages e).to_last in
                it.refused n (omega (arith, to_last)) (ap (λ r. column r 0) same ∙ numbered)

    -- of a document that is there
    few_numbers : (j n : ℕ) (o : Option Job) → get room.jobs j ≡ o → has_document o n ≡ true → (j < 2 ^ 32) × (n < 2 ^ 32)
    few_numbers j n None e has = absurd (true≢false (sym has))
    few_numbers j n (Some job) e has =
        let kept = held.is_room.jobs j job e in
        let below = kept.below_next in
        let next = held.is_room.next_in_range in
        let most = kept.standing.ranges.documents_at_most in
        let few = last (is_unfinished job.standing.state) (nat_le 1 n) n job.standing.documents has in
        (omega (arith, below, next), omega (arith, most, few))
      where
        last : (a b : Bool) (m n : ℕ) → (a && b && nat_le m n) ≡ true → m ≤ n
        last a b m n h = grind (arith, nat_tests)

    places_told_of : (first : List (ℕ × ℕ)) → RefusesOne ListsPlace (λ _ row. refuses_place row) (map place_cells (all_documents db name)) first → ⊥
    places_told_of first it =
        let shown = has_mapped place_cells (all_documents db name) it.row (refused_there ListsPlace (λ _ row. refuses_place row) (map place_cells (all_documents db name)) first it) in
        let at = document_of_row shown.0 shown.1 in
        of at.0 at.1 shown.0 shown.2 at.2 at.3 at.4
      where
        of : (y z : ℤ) (cells : Row) → it.row ≡ place_cells cells → document_at db name y z ≡ Some cells → cell document_column.job cells ≡ Int y → cell document_column.number cells ≡ Int z → ⊥
        of (negsuc j) (negsuc n) cells same is job number = let no : None ≡ Some cells = sym (held.rows.document_rows (negsuc j) (negsuc n)) ∙ is in absurd cc
        of (negsuc j) (pos n) cells same is job number = let no : None ≡ Some cells = sym (held.rows.document_rows (negsuc j) (pos n)) ∙ is in absurd cc
        of (pos j) (negsuc n) cells same is job number = let no : None ≡ Some cells = sym (held.rows.document_rows (pos j) (negsuc n)) ∙ is in absurd cc
        of (pos j) (pos n) cells same is job number = by_document (get room.documents (j, n)) refl
          where
            by_document : (o : Option Document) → get room.documents (j, n) ≡ o → ⊥
            by_document None e = let no : None ≡ Some cells = sym (ap (option_map (document_cells name)) e) ∙ sym (held.rows.document_rows (pos j) (pos n)) ∙ is in absurd cc
            by_document (Some there) e =
                let has : has_document (get room.jobs j) n ≡ true = sym (held.is_room.all_documents j n) ∙ ap is_some e in
                let few = few_numbers j n (get room.jobs j) refl has in
                it.refused j n few.0 few.1 (ap (λ r. column r 0) same ∙ job) (ap (λ r. column r 1) same ∙ number)

  pub months_told : IsSound db name → (first : List ℕ) → RefusesOne ListsNumber (λ _ row. refuses_number row) (map number_cell (grant_rows db name)) first → ⊥
  months_told (Some room, held) first it = months_told_of room held first it
  months_told (None, held) first it =
      let shown = has_mapped number_cell (grant_rows db name) it.row (refused_there ListsNumber (λ _ row. refuses_number row) (map number_cell (grant_rows db name)) first it) in
      let at = grant_of_row shown.0 shown.1 in
      let no : None ≡ Some shown.0 = sym (held.no_grant at.0) ∙ at.1 in absurd cc

  pub places_told : IsSound db name → (first : List (ℕ × ℕ)) → RefusesOne ListsPlace (λ _ row. refuses_place row) (map place_cells (all_documents db name)) first → ⊥
  places_told (Some room, held) first it = places_told_of room held first it
  places_told (None, held) first it =
      let shown = has_mapped place_cells (all_documents db name) it.row (refused_there ListsPlace (λ _ row. refuses_place row) (map place_cells (all_documents db name)) first it) in
      let at = document_of_row shown.0 shown.1 in
      let no : None ≡ Some shown.0 = sym (held.no_document at.0 at.1) ∙ at.2 in absurd cc
