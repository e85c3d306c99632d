-- The walk over the jobs of an account for the days of a month: what its text means, and what it adds.
use Rattle.std.proofs.Common.{◌≡◌, ℕ, ℤ, pos, negsuc, ◌+◌, ◌<◌, ◌≤◌, Bool, true, false, if◌then◌else◌, List, [], ◌∷◌, map, drop, codes, slice_index, Option, Some, None, IsPermutation, refl, sym, ap, subst, ◌∙◌, arith}
use Rattle.std.specs.List.{sum_by}
use Rattle.std.proofs.lemmas.List.Sums.{sum_by-cons}
use Rattle.std.proofs.lemmas.List.Sorted.{IsPermutation-map, IsPermutation-sym, sum_by-IsPermutation}
use Rattle.sqlite_tied.specs.Compute.{everything}
use Rattle.sqlite_value.specs.declared.value.Value.TheVariants.{Text}
use Rattle.sqlite_value.specs.Order.{Row, column}
use Rattle.sqlite_value.specs.Keys.{first_key}
use Rattle.sqlite_trees.proofs.ListLemmas.{map-map}
use Rattle.sqlite_sql.specs.Term.{Term, col}
use Rattle.sqlite_rules.proofs.ProbeLemmas.{has_mapped}
use Rattle.sqlite.specs.Effect.{Database}
use Rattle.sqlite.specs.Listing.{understood}
use Rattle.page_overview.specs.Surveys.{charged_on, is_on, told}
use Rattle.page_overview.specs.declared.days.TheConstants.{MOST_DAYS}
use Rattle.account_rules.specs.declared.job.Job.{Job}
use Rattle.rows_tables.specs.Places.{job_tree, job_column, account_places}
use Rattle.rows_tables.specs.Tables.{room_schema, job}
use Rattle.rows_tables.specs.Keyed.{rows_under}
use Rattle.rows_tables.specs.Queries.{Means, TakesParams, of_table, is_given, shown_of}
use Rattle.rows_tables.specs.Cells.{job_cells, moment}
use Rattle.rows_tables.proofs.Queries.{permuted_has}
use Rattle.rows_tables.proofs.ReadBackLemmas.{integer_in, natural_in}
use Rattle.rows_statements.proofs.RowTotals.{of_their_cells, sum_mapped, refused_there}
use Rattle.rows_statements.specs.SoundRows.{CanBeSummed}
use Rattle.rows_statements.specs.Walks.{GathersAll, WalksAll, RefusesOne}
use Rattle.rows_survey.specs.Charges.{charged_cells, refuses_charge, AddsCharge, TellsCharge}
use Rattle.rows_survey.specs.declared.charges.Charges.{Charges}

abbrev pub charged_text : List ℕ
charged_text = codes "SELECT charged, ended FROM job WHERE account = ?1"

abbrev pub charged_tests : List Term
charged_tests = is_given job_column.account 1 ∷ []

abbrev pub charged_shows : List Term
charged_shows = col 1 job_column.charged ∷ col 1 job_column.ended ∷ []

abbrev pub charged_names : List (List ℕ)
charged_names = codes "charged" ∷ codes "ended" ∷ []

pub charged_is : Means room_schema charged_text (of_table job_tree charged_tests charged_shows []) charged_names 1
unfolding understood everything
charged_is = record { is = refl; lists_nothing = refl; is_plain = (refl, refl); takes = refl; is_whole = refl }

pub charged_takes : (name : List ℕ) → TakesParams room_schema (of_table job_tree charged_tests charged_shows []) (Text name ∷ []) 1
charged_takes name = record { given = refl; typed = refl }

cells_charged : (r : Row) → column r job_column.charged ∷ column r job_column.ended ∷ [] ≡ charged_cells (drop 1 r)
cells_charged [] = refl
cells_charged (v ∷ r) = refl

-- the rows that pass the test of the text are those of the account
pub jobs_shown : (name : List ℕ) (db : Database) → shown_of job_tree charged_tests charged_shows (Text name ∷ []) db.trees ≡ map charged_cells (rows_under job account_places (Text name ∷ []) db)
unfolding first_key
jobs_shown name db = of_their_cells (λ r. column r job_column.charged ∷ column r job_column.ended ∷ []) charged_cells cells_charged _

-- ---- what the rows tell

abbrev moment_in : ℤ → Option ℕ
moment_in (pos n) = Some n
moment_in (negsuc n) = None

moment_read : (at : Option ℕ) → moment_in (integer_in (moment at)) ≡ at
moment_read None = refl
moment_read (Some at) = refl

abbrev units_on : (month place : ℕ) → Row → ℕ
units_on month place row = charged_on month place (natural_in (integer_in (column row 0))) (moment_in (integer_in (column row 1)))

units_told : (month place : ℕ) (row : Row) (charged : ℕ) (ended : Option ℕ) → TellsCharge row charged ended → units_on month place row ≡ charged_on month place charged ended
units_told month place row charged ended it =
    let end = ap (λ v. moment_in (integer_in v)) it.end ∙ moment_read ended in
    λ i. charged_on month place (natural_in (integer_in (it.charge i))) (end i)

abbrev pub refuses : Charges → Row → Type 0
refuses first row = refuses_charge row

-- a sum that is told, on the day or on another
one_day : (is : Bool) (was now charged : ℕ) → was ≤ 18446744073709551615 → now ≡ (if is then told (was + charged) else was) → now ≡ told (was + (if is then charged else 0))
one_day true was now charged low e = e
one_day false was now charged low e = omega (arith, e, low)

adds_up : (place : ℕ) → place < MOST_DAYS → (first last : Charges) (rows : List Row) → GathersAll AddsCharge first rows last → slice_index first.days place ≤ 18446744073709551615
    → slice_index last.days place ≡ told (slice_index first.days place + sum_by (units_on first.month place) rows)
adds_up place within first last [] same low = omega (arith, ap (λ (c : Charges). slice_index c.days place) same, low)
adds_up place within first last (r ∷ rows) (next, step, more) low =
    let added : slice_index next.days place ≡ told (slice_index first.days place + charged_on first.month place step.charged step.ended) =
    one_day (is_on first.month place step.ended) (slice_index first.days place) (slice_index next.days place) step.charged low (step.added.days place within) in
    let one = units_told first.month place r step.charged step.ended step.told_so in
    let others : sum_by (units_on next.month place) rows ≡ sum_by (units_on first.month place) rows = ap (λ month. sum_by (units_on month place) rows) step.added.month in
    let rest = adds_up place within next last rows more (omega (arith, added)) in
    omega (arith, rest, others, added, one, sum_by-cons (units_on first.month place) r rows)

-- ---- the rows of jobs

abbrev told_of : List ℕ → Job → Row
told_of name it = charged_cells (job_cells name it)

-- what a job was charged counts so
abbrev pub units_of : (month place : ℕ) → Job → ℕ
units_of month place it = charged_on month place it.standing.charged it.standing.ended

module _ (name : List ℕ) (rows : List Row) (first : Charges) where
  abbrev shown : List Row
  shown = map charged_cells rows

  module _ (jobs : List Job) (theirs : IsPermutation rows (map (job_cells name) jobs)) where
    shown_told : IsPermutation shown (map (told_of name) jobs)
    shown_told = subst (IsPermutation shown) (map-map charged_cells (job_cells name) jobs) (IsPermutation-map charged_cells rows (map (job_cells name) jobs) theirs)

    sum_told : (month place : ℕ) → sum_by (units_on month place) shown ≡ sum_by (units_of month place) jobs
    sum_told month place =
        let on = units_on month place in
        sym (sum_by-IsPermutation on shown (map (told_of name) jobs) shown_told) ∙ sum_mapped (told_of name) on jobs ∙ (λ i. sum_by (λ (it : Job). charged_on month place it.standing.charged (moment_read it.standing.ended i)) jobs)

    pub jobs_charged : (last : Charges) → WalksAll AddsCharge refuses shown first last → (place : ℕ) → place < MOST_DAYS → slice_index first.days place ≡ 0 → slice_index last.days place ≡ told (sum_by (units_of first.month place) jobs)
    jobs_charged last (given, same, gathered) place within none =
        let on = units_on first.month place in
        omega (arith, adds_up place within first last given gathered (omega (arith, none)), none, sum_by-IsPermutation on shown given same, sum_told first.month place)

  pub jobs_unsound : RefusesOne AddsCharge refuses shown first → CanBeSummed name rows → ⊥
  jobs_unsound it can =
      let there = permuted_has (map (told_of name) can.jobs) shown it.row (IsPermutation-sym _ _ (shown_told can.jobs can.are_theirs)) (refused_there AddsCharge refuses shown first it) in
      let here = has_mapped (told_of name) can.jobs it.row there in
      it.refused here.0.standing.charged here.0.standing.ended (record { charge = ap (λ r. column r 0) here.2; end = ap (λ r. column r 1) here.2 })
