-- Rows of an account are in order where those of each key that a walk gathered are.
use Rattle.std.proofs.Common.{◌≡◌, ℕ, ℤ, pos, negsuc, List, map, Option, Some, None, IsSome, refl, sym, subst, ◌∙◌}
use Rattle.std.specs.List.{AllByRecursion}
use Rattle.std.proofs.lemmas.Bool.{true≢false}
use Rattle.std.proofs.lemmas.List.Sorted.{IsPermutation-sym}
use Rattle.sqlite_value.specs.declared.value.Value.TheVariants.{Int}
use Rattle.sqlite_value.specs.Order.{Row, column}
use Rattle.sqlite_rules.specs.Lists.{Has}
use Rattle.sqlite_rules.proofs.ListLemmas.{all_has}
use Rattle.sqlite_rules.proofs.ProbeLemmas.{mapped_has}
use Rattle.sqlite.specs.Effect.{Database}
use Rattle.rows_tables.specs.Accounts.{document_at, grant_at, job_at}
use Rattle.rows_tables.specs.Keyed.{HasSchema}
use Rattle.rows_tables.proofs.Queries.{permuted_has}
use Rattle.rows_checks.specs.Checks.{DocumentIsInOrder, DocumentsAreInOrder, GrantIsInOrder, GrantsAreInOrder, JobIsInOrder, JobsAreInOrder, ListsNumber, ListsPlace, all_documents, place_cells, refuses_number, refuses_place}
use Rattle.rows_statements.specs.Walks.{WalksAll}
use Rattle.rows_statements.specs.SoundRows.{grant_rows, job_rows}
use Rattle.rows_statements.specs.Totals.{number_cell}
use Rattle.rows_checks.proofs.KeyWalks.{document_listed, grant_listed, job_listed, number_told, place_told}

same_key : (y z : ℤ) → Int y ≡ Int z → y ≡ z
same_key y z e = cc

same_number : (m n : ℕ) → pos m ≡ pos n → m ≡ n
same_number m n e = cc

-- what a row of the table tells is among what was gathered
told_of : (rows : List Row) (first last : List ℕ) → WalksAll ListsNumber (λ _ row. refuses_number row) (map number_cell rows) first last → (cells : Row) → Has rows cells → (n : ℕ) × Has last n × (column cells 1 ≡ Int (pos n))
told_of rows first last (given, are, gathered) cells h = number_told given first last (number_cell cells) gathered (permuted_has given (map number_cell rows) (number_cell cells) (IsPermutation-sym _ _ are) (mapped_has number_cell rows cells h))

module _ (db : Database) (has : HasSchema db) (name : List ℕ) where
  module _ (next : ℕ) (first last : List ℕ) (walked : WalksAll ListsNumber (λ _ row. refuses_number row) (map number_cell (job_rows db name)) first last) (all : AllByRecursion (JobIsInOrder db name next) last) where
    job_key_told : (z : ℤ) (cells : Row) → job_at db name z ≡ Some cells → (n : ℕ) × Has last n × (z ≡ pos n)
    job_key_told z cells is =
        let listed = job_listed db has name z cells is in
        let told = told_of (job_rows db name) first last walked cells listed.0 in
        (told.0, told.1, same_key z (pos told.0) (sym listed.1 ∙ told.2))

    pub jobs_in_order : JobsAreInOrder db name next
    jobs_in_order = record { each = λ n. each n (job_at db name (pos n)) refl; numbered = λ n. numbered n (job_at db name (negsuc n)) refl }
      where
        each : (n : ℕ) (o : Option Row) → job_at db name (pos n) ≡ o → JobIsInOrder db name next n
        each n None is = record { found = None; read = is; in_range = tt; documents = λ d h. absurd (true≢false (sym h)) }
        each n (Some cells) is =
            let told = job_key_told (pos n) cells is in
            all_has (JobIsInOrder db name next) last n all (subst (Has last) (sym (same_number n told.0 told.2)) told.1)

        numbered : (n : ℕ) (o : Option Row) → job_at db name (negsuc n) ≡ o → job_at db name (negsuc n) ≡ None
        numbered n None is = is
        numbered n (Some cells) is = let told = job_key_told (negsuc n) cells is in absurd (let no : negsuc n ≡ pos told.0 = told.2 in cc)

  module _ (first last : List ℕ) (walked : WalksAll ListsNumber (λ _ row. refuses_number row) (map number_cell (grant_rows db name)) first last) (all : AllByRecursion (GrantIsInOrder db name) last) where
    grant_key_told : (z : ℤ) (cells : Row) → grant_at db name z ≡ Some cells → (n : ℕ) × Has last n × (z ≡ pos n)
    grant_key_told z cells is =
        let listed = grant_listed db has name z cells is in
        let told = told_of (grant_rows db name) first last walked cells listed.0 in
        (told.0, told.1, same_key z (pos told.0) (sym listed.1 ∙ told.2))

    pub grants_in_order : GrantsAreInOrder db name
    grants_in_order = record { each = λ n. each n (grant_at db name (pos n)) refl; numbered = λ n. numbered n (grant_at db name (negsuc n)) refl }
      where
        each : (n : ℕ) (o : Option Row) → grant_at db name (pos n) ≡ o → GrantIsInOrder db name n
        each n None is = (None, tt, is)
        each n (Some cells) is =
            let told = grant_key_told (pos n) cells is in
            all_has (GrantIsInOrder db name) last n all (subst (Has last) (sym (same_number n told.0 told.2)) told.1)

        numbered : (n : ℕ) (o : Option Row) → grant_at db name (negsuc n) ≡ o → grant_at db name (negsuc n) ≡ None
        numbered n None is = is
        numbered n (Some cells) is = let told = grant_key_told (negsuc n) cells is in absurd (let no : negsuc n ≡ pos told.0 = told.2 in cc)

  module _ (first last : List (ℕ × ℕ)) (walked : WalksAll ListsPlace (λ _ row. refuses_place row) (map place_cells (all_documents db name)) first last) (all : AllByRecursion (λ (place : ℕ × ℕ). DocumentIsInOrder db name place.0 place.1) last) where
    place_key_told : (y z : ℤ) (cells : Row) → document_at db name y z ≡ Some cells → (place : ℕ × ℕ) × Has last place × (y ≡ pos place.0) × (z ≡ pos place.1)
    place_key_told y z cells is =
        let listed = document_listed db has name y z cells is in
        let told = place_told walked.0 first last (place_cells cells) walked.2 (permuted_has walked.0 (map place_cells (all_documents db name)) (place_cells cells) (IsPermutation-sym _ _ walked.1) (mapped_has place_cells (all_documents db name) cells listed.0)) in
        (told.0, told.1, same_key y (pos told.0.0) (sym listed.1 ∙ told.2), same_key z (pos told.0.1) (sym listed.2 ∙ told.3))

    pub documents_in_order : DocumentsAreInOrder db name
    documents_in_order = record { each = λ j n some. each j n (document_at db name (pos j) (pos n)) refl some; numbered = λ y z some. numbered y z (document_at db name y z) refl some }
      where
        each : (j n : ℕ) (o : Option Row) → document_at db name (pos j) (pos n) ≡ o → DocumentIsInOrder db name j n
        each j n None is some = absurd (true≢false (sym (subst (λ (o : Option Row). IsSome o) is some)))
        each j n (Some cells) is some =
            let told = place_key_told (pos j) (pos n) cells is in
            let job = same_number j told.0.0 told.2 in
            let number = same_number n told.0.1 told.3 in
            subst (λ (place : ℕ × ℕ). DocumentIsInOrder db name place.0 place.1) (λ i. (sym job i, sym number i)) (all_has (λ (place : ℕ × ℕ). DocumentIsInOrder db name place.0 place.1) last told.0 all told.1) some

        numbered : (y z : ℤ) (o : Option Row) → document_at db name y z ≡ o → IsSome (document_at db name y z) → (j : ℕ) × (n : ℕ) × (y ≡ pos j) × (z ≡ pos n)
        numbered y z None is some = absurd (true≢false (sym (subst (λ (o : Option Row). IsSome o) is some)))
        numbered y z (Some cells) is some = let told = place_key_told y z cells is in (told.0.0, told.0.1, told.2, told.3)
