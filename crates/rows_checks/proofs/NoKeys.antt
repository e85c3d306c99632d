-- A walk that takes no row finds none exactly where no key has one.
use Rattle.std.proofs.Common.{◌≡◌, ℕ, ℤ, List, [], ◌∷◌, map, Option, Some, None, refl, sym, ◌∙◌}
use Rattle.std.specs.Prelude.{⊤}
use Rattle.std.proofs.lemmas.List.Sorted.{IsPermutation-sym}
use Rattle.sqlite_value.specs.Order.{Row}
use Rattle.sqlite_rules.specs.Lists.{Has}
use Rattle.sqlite_rules.proofs.ProbeLemmas.{has_mapped, mapped_has}
use Rattle.sqlite.specs.Effect.{Database}
use Rattle.rows_tables.specs.Accounts.{document_at, grant_at, job_at}
use Rattle.rows_tables.specs.Keyed.{HasSchema}
use Rattle.rows_tables.proofs.Queries.{permuted_has}
use Rattle.rows_checks.specs.Checks.{all_documents, place_cells}
use Rattle.rows_statements.specs.Walks.{GathersAll, RefusesOne, WalksAll}
use Rattle.rows_statements.specs.SoundRows.{grant_rows, job_rows}
use Rattle.rows_statements.specs.Totals.{number_cell}
use Rattle.rows_checks.proofs.KeyRefusals.{document_of_row, grant_of_row, job_of_row}
use Rattle.rows_checks.proofs.KeyWalks.{document_listed, grant_listed, job_listed}
use Rattle.rows_statements.proofs.RowTotals.{refused_there}

-- nothing is shown
none_shown : {G : Type 0} (shown : List Row) (first last : G) → WalksAll {G = G} (λ _ _ _. ⊥) (λ _ _. ⊤) shown first last → (row : Row) → Has shown row → ⊥
none_shown {G} shown first last (given, are, gathered) row h = none given gathered (permuted_has given shown row (IsPermutation-sym _ _ are) h)
  where
    none : (rows : List Row) → GathersAll {G = G} (λ _ _ _. ⊥) first rows last → Has rows row → ⊥
    none [] gathered h = absurd h
    none (other ∷ rows) (next, taken, more) h = absurd taken

module _ (db : Database) (has : HasSchema db) (name : List ℕ) where
  module _ {G : Type 0} (first last : G) where
    pub no_jobs_there : WalksAll {G = G} (λ _ _ _. ⊥) (λ _ _. ⊤) (map number_cell (job_rows db name)) first last → (z : ℤ) → job_at db name z ≡ None
    no_jobs_there walked z = of (job_at db name z) refl
      where
        of : (o : Option Row) → job_at db name z ≡ o → job_at db name z ≡ None
        of None is = is
        of (Some cells) is = absurd (none_shown (map number_cell (job_rows db name)) first last walked (number_cell cells) (mapped_has number_cell (job_rows db name) cells (job_listed db has name z cells is).0))

    pub no_grants_there : WalksAll {G = G} (λ _ _ _. ⊥) (λ _ _. ⊤) (map number_cell (grant_rows db name)) first last → (z : ℤ) → grant_at db name z ≡ None
    no_grants_there walked z = of (grant_at db name z) refl
      where
        of : (o : Option Row) → grant_at db name z ≡ o → grant_at db name z ≡ None
        of None is = is
        of (Some cells) is = absurd (none_shown (map number_cell (grant_rows db name)) first last walked (number_cell cells) (mapped_has number_cell (grant_rows db name) cells (grant_listed db has name z cells is).0))

    pub no_documents_there : WalksAll {G = G} (λ _ _ _. ⊥) (λ _ _. ⊤) (map place_cells (all_documents db name)) first last → (y z : ℤ) → document_at db name y z ≡ None
    no_documents_there walked y z = of (document_at db name y z) refl
      where
        of : (o : Option Row) → document_at db name y z ≡ o → document_at db name y z ≡ None
        of None is = is
        of (Some cells) is = absurd (none_shown (map place_cells (all_documents db name)) first last walked (place_cells cells) (mapped_has place_cells (all_documents db name) cells (document_listed db has name y z cells is).0))

  module _ {G : Type 0} (step : G → Row → G → Type 0) (refuses : G → Row → Type 0) (first : G) where
    pub job_there : RefusesOne step refuses (map number_cell (job_rows db name)) first → ((z : ℤ) → job_at db name z ≡ None) → ⊥
    job_there it none =
        let shown = has_mapped number_cell (job_rows db name) it.row (refused_there step refuses (map number_cell (job_rows db name)) first it) in
        let at = job_of_row db has name shown.0 shown.1 in
        let no : None ≡ Some shown.0 = sym (none at.0) ∙ at.1 in absurd cc

    pub grant_there : RefusesOne step refuses (map number_cell (grant_rows db name)) first → ((z : ℤ) → grant_at db name z ≡ None) → ⊥
    grant_there it none =
        let shown = has_mapped number_cell (grant_rows db name) it.row (refused_there step refuses (map number_cell (grant_rows db name)) first it) in
        let at = grant_of_row db has name shown.0 shown.1 in
        let no : None ≡ Some shown.0 = sym (none at.0) ∙ at.1 in absurd cc

    pub document_there : RefusesOne step refuses (map place_cells (all_documents db name)) first → ((y z : ℤ) → document_at db name y z ≡ None) → ⊥
    document_there it none =
        let shown = has_mapped place_cells (all_documents db name) it.row (refused_there step refuses (map place_cells (all_documents db name)) first it) in
        let at = document_of_row db has name shown.0 shown.1 in
        let no : None ≡ Some shown.0 = sym (none at.0 at.1) ∙ at.2 in absurd cc
