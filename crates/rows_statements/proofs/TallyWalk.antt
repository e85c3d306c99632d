-- The walk over the jobs of an account: what its text means, and what it counts.
use Rattle.std.proofs.Common.{◌≡◌, ℕ, ◌+◌, ◌≤◌, Bool, true, false, cond, ◌||◌, List, [], ◌∷◌, map, drop, codes, Some, None, IsPermutation, refl, sym, ap, subst, ◌∙◌, IsTrue, arith}
use Rattle.std.specs.List.{sum_by, list_any}
use Rattle.std.specs.FinMap.{values}
use Rattle.std.proofs.Math.Bool.{or-false}
use Rattle.std.proofs.lemmas.Bool.Decides.{nat_tests}
use Rattle.std.proofs.lemmas.List.Sums.{sum_by-cons}
use Rattle.std.proofs.lemmas.List.Sorted.{IsPermutation-map, IsPermutation-sym, sum_by-IsPermutation, list_any-IsPermutation}
use Rattle.sqlite_tied.specs.Compute.{everything}
use Rattle.sqlite_value.specs.declared.value.Value.TheVariants.{Text}
use Rattle.sqlite_value.specs.Order.{Row, column}
use Rattle.sqlite_value.specs.Keys.{first_key}
use Rattle.sqlite_trees.proofs.ListLemmas.{map-map}
use Rattle.sqlite_sql.specs.Term.{Term, col}
use Rattle.sqlite_rules.proofs.ProbeLemmas.{has_mapped}
use Rattle.sqlite.specs.Effect.{Database}
use Rattle.sqlite.specs.Listing.{understood}
use Rattle.account_rules.specs.JobStates.{is_unfinished, is_processing}
use Rattle.account_rules.specs.Limits.{most_unfinished, most_units}
use Rattle.account_rules.specs.declared.job.Job.{Job}
use Rattle.account_rules.specs.declared.job.JobState.{JobState}
use Rattle.account_state.specs.declared.tally.Tally.{Tally}
use Rattle.account_state.specs.Tallies.{tally_of, counted, is_in_bounds}
use Rattle.account_state.proofs.TallyLemmas.{three_lower, counted_some, room_in_bounds}
use Rattle.rows_tables.specs.Places.{job_tree, job_column, account_places}
use Rattle.rows_tables.specs.Tables.{room_schema, job}
use Rattle.rows_tables.specs.Keyed.{HasSchema, rows_under}
use Rattle.rows_tables.specs.Queries.{Means, TakesParams, of_table, is_given, shown_of}
use Rattle.rows_tables.specs.Cells.{job_cells}
use Rattle.rows_tables.specs.Accounts.{IsSound}
use Rattle.rows_statements.specs.Totals.{counted_cells, TellsCounted, CountsJob, refuses_job}
use Rattle.rows_statements.specs.SoundRows.{job_rows, CanBeCounted}
use Rattle.rows_statements.specs.Walks.{GathersAll, HasGathered, WalksAll, RefusesOne}
use Rattle.rows_statements.proofs.AccountRows.{rows_of_jobs, no_jobs}
use Rattle.rows_tables.proofs.Queries.{permuted_has}
use Rattle.rows_tables.proofs.ReadBackLemmas.{integer_in, natural_in, state_in, state_read}
use Rattle.rows_statements.proofs.RowTotals.{of_their_cells, sum_mapped, any_mapped, refused_there, refused_within}

abbrev pub tally_text : List ℕ
tally_text = codes "SELECT state, reserved, charged FROM job WHERE account = ?1"

abbrev pub tally_tests : List Term
tally_tests = is_given job_column.account 1 ∷ []

abbrev pub tally_shows : List Term
tally_shows = col 1 job_column.state ∷ col 1 job_column.reserved ∷ col 1 job_column.charged ∷ []

abbrev pub tally_names : List (List ℕ)
tally_names = codes "state" ∷ codes "reserved" ∷ codes "charged" ∷ []

pub tally_is : Means room_schema tally_text (of_table job_tree tally_tests tally_shows []) tally_names 1
unfolding understood everything
tally_is = record { is = refl; lists_nothing = refl; is_plain = (refl, refl); takes = refl; is_whole = refl }

pub tally_takes : (name : List ℕ) → TakesParams room_schema (of_table job_tree tally_tests tally_shows []) (Text name ∷ []) 1
tally_takes name = record { given = refl; typed = refl }

pub cells_counted : (r : Row) → column r job_column.state ∷ column r job_column.reserved ∷ column r job_column.charged ∷ [] ≡ counted_cells (drop 1 r)
cells_counted [] = refl
cells_counted (v ∷ r) = refl

-- the rows that pass the test of the text are those of the account
pub jobs_shown : (name : List ℕ) (db : Database) → shown_of job_tree tally_tests tally_shows (Text name ∷ []) db.trees ≡ map counted_cells (rows_under job account_places (Text name ∷ []) db)
unfolding first_key
jobs_shown name db = of_their_cells (λ r. column r job_column.state ∷ column r job_column.reserved ∷ column r job_column.charged ∷ []) counted_cells cells_counted _

-- ---- what the rows tell

abbrev state_on : Row → JobState
state_on row = state_in (natural_in (integer_in (column row 0)))

abbrev unfinished_on : Row → ℕ
unfinished_on row = cond (is_unfinished (state_on row)) 1 0

abbrev processing_on : Row → Bool
processing_on row = is_processing (state_on row)

abbrev reserved_on : Row → ℕ
reserved_on row = natural_in (integer_in (column row 1))

abbrev charged_on : Row → ℕ
charged_on row = natural_in (integer_in (column row 2))

state_told : (row : Row) (state : JobState) (reserved charged : ℕ) → TellsCounted row state reserved charged → state_on row ≡ state
state_told row state reserved charged told = ap (λ v. state_in (natural_in (integer_in v))) told.state ∙ state_read state

-- the rows add so much
record Adds (first : Tally) (rows : List Row) (last : Tally) : Type 0 where
  unfinished : last.unfinished ≡ first.unfinished + sum_by unfinished_on rows
  is_processing : last.is_processing ≡ (first.is_processing || list_any processing_on rows)
  reserved : last.reserved ≡ first.reserved + sum_by reserved_on rows
  charged : last.charged ≡ first.charged + sum_by charged_on rows

is_counted : (b : Bool) (it last : Tally) → cond b (Some it) None ≡ Some last → last ≡ it
is_counted true it last is = cc
is_counted false it last is = absurd (let no = is in cc)

counted_within : (b : Bool) (it last : Tally) → b ≡ is_in_bounds it → cond b (Some it) None ≡ Some last → IsTrue (is_in_bounds last)
counted_within true it last fits is = ap is_in_bounds (is_counted true it last is) ∙ sym fits
counted_within false it last fits is = absurd (let no = is in cc)

-- whatever the rows, what is counted stays within its bounds
tally_within : (first last : Tally) (rows : List Row) → GathersAll CountsJob first rows last → IsTrue (is_in_bounds first) → IsTrue (is_in_bounds last)
tally_within first last [] same within = subst (λ (t : Tally). IsTrue (is_in_bounds t)) same within
tally_within first last (r ∷ rows) (next, step, more) within =
    tally_within next last rows more (counted_within _ (counted first step.state step.reserved step.charged) next refl step.counted)

pub walked_within : (first last : Tally) → HasGathered CountsJob first last → first ≡ tally_of [] → IsTrue (is_in_bounds last)
walked_within first last (rows, gathered) none = tally_within first last rows gathered (subst (λ (t : Tally). IsTrue (is_in_bounds t)) (sym none) refl)

pub few_of : (tally : Tally) → IsTrue (is_in_bounds tally) → tally.unfinished ≤ most_unfinished
few_of tally within = grind (arith, nat_tests)

pub units_of : (tally : Tally) → IsTrue (is_in_bounds tally) → (tally.reserved ≤ most_units) × (tally.charged ≤ most_units)
units_of tally within = (grind (arith, nat_tests), grind (arith, nat_tests))

or_twice : (a b c : Bool) → ((a || b) || c) ≡ (a || (b || c))
or_twice true b c = refl
or_twice false b c = refl

adds_up : (first last : Tally) (rows : List Row) → GathersAll CountsJob first rows last → Adds first rows last
adds_up first last [] same = record {
  unfinished = omega (arith, ap (λ (t : Tally). t.unfinished) same);
  is_processing = sym (ap (λ (t : Tally). t.is_processing) same) ∙ sym (or-false first.is_processing);
  reserved = omega (arith, ap (λ (t : Tally). t.reserved) same);
  charged = omega (arith, ap (λ (t : Tally). t.charged) same);
}
adds_up first last (r ∷ rows) (next, step, more) =
    let rest = adds_up next last rows more in
    let one = counted first step.state step.reserved step.charged in
    let is = is_counted (is_in_bounds one) one next step.counted in
    let state = state_told r step.state step.reserved step.charged step.told in
    let unfinished : next.unfinished ≡ first.unfinished + unfinished_on r = ap (λ (t : Tally). t.unfinished) is ∙ ap (λ s. first.unfinished + cond (is_unfinished s) 1 0) (sym state) in
    let processing : next.is_processing ≡ (first.is_processing || processing_on r) = ap (λ (t : Tally). t.is_processing) is ∙ ap (λ s. first.is_processing || is_processing s) (sym state) in
    let reserved : next.reserved ≡ first.reserved + reserved_on r = ap (λ (t : Tally). t.reserved) is ∙ ap (λ v. first.reserved + natural_in (integer_in v)) (sym step.told.reserved) in
    let charged : next.charged ≡ first.charged + charged_on r = ap (λ (t : Tally). t.charged) is ∙ ap (λ v. first.charged + natural_in (integer_in v)) (sym step.told.charged) in
    record {
      unfinished = omega (arith, rest.unfinished, unfinished, sum_by-cons unfinished_on r rows);
      is_processing = rest.is_processing ∙ ap (λ b. b || list_any processing_on rows) processing ∙ or_twice first.is_processing (processing_on r) (list_any processing_on rows);
      reserved = omega (arith, rest.reserved, reserved, sum_by-cons reserved_on r rows);
      charged = omega (arith, rest.charged, charged, sum_by-cons charged_on r rows);
    }

-- ---- the rows of a room

abbrev told_of : List ℕ → Job → Row
told_of name it = counted_cells (job_cells name it)

module _ (name : List ℕ) (rows : List Row) where
  abbrev shown : List Row
  shown = map counted_cells rows

  -- where they are those of some jobs
  module _ (jobs : List Job) (theirs : IsPermutation rows (map (job_cells name) jobs)) where
    shown_told : IsPermutation shown (map (told_of name) jobs)
    shown_told = subst (IsPermutation shown) (map-map counted_cells (job_cells name) jobs) (IsPermutation-map counted_cells rows (map (job_cells name) jobs) theirs)

    sum_told : (f : Row → ℕ) → sum_by f shown ≡ sum_by (λ it. f (told_of name it)) jobs
    sum_told f = sym (sum_by-IsPermutation f shown (map (told_of name) jobs) shown_told) ∙ sum_mapped (told_of name) f jobs

    unfinished_told : sum_by unfinished_on shown ≡ (tally_of jobs).unfinished
    unfinished_told = sum_told unfinished_on ∙ (λ i. sum_by (λ (it : Job). cond (is_unfinished (state_read it.standing.state i)) 1 0) jobs)

    processing_told : list_any processing_on shown ≡ list_any (λ it. is_processing it.standing.state) jobs
    processing_told =
        list_any-IsPermutation processing_on shown (map (told_of name) jobs) shown_told ∙ any_mapped (told_of name) processing_on jobs
        ∙ (λ i. list_any (λ (it : Job). is_processing (state_read it.standing.state i)) jobs)

    pub tally_counted : (last : Tally) → WalksAll CountsJob refuses_job shown (tally_of []) last → last ≡ tally_of jobs
    tally_counted last (given, same, gathered) =
        let adds = adds_up (tally_of []) last given gathered in
        let total = λ (f : Row → ℕ). sum_by-IsPermutation f shown given same in
        let unfinished : last.unfinished ≡ (tally_of jobs).unfinished = omega (arith, adds.unfinished, total unfinished_on, unfinished_told) in
        let processing = adds.is_processing ∙ sym (list_any-IsPermutation processing_on shown given same) ∙ processing_told in
        let reserved : last.reserved ≡ (tally_of jobs).reserved = omega (arith, adds.reserved, total reserved_on, sum_told reserved_on) in
        let charged : last.charged ≡ (tally_of jobs).charged = omega (arith, adds.charged, total charged_on, sum_told charged_on) in
        λ i. record { unfinished = unfinished i; is_processing = processing i; reserved = reserved i; charged = charged i }

    -- a job of them is never refused where they come to no more than jobs can
    none_refused : IsTrue (is_in_bounds (tally_of jobs)) → RefusesOne CountsJob refuses_job shown (tally_of []) → ⊥
    none_refused bounds it =
        let there = permuted_has (map (told_of name) jobs) shown it.row (IsPermutation-sym _ _ shown_told) (refused_there CountsJob refuses_job shown (tally_of []) it) in
        let here = has_mapped (told_of name) jobs it.row there in
        let s = here.0.standing in
        let told : TellsCounted it.row s.state s.reserved s.charged = record { state = ap (λ r. column r 0) here.2; reserved = ap (λ r. column r 1) here.2; charged = ap (λ r. column r 2) here.2 } in
        let adds = adds_up (tally_of []) it.so_far it.given it.gathered in
        let within = λ (f : Row → ℕ). refused_within CountsJob refuses_job shown (tally_of []) it f in
        let state = state_told it.row s.state s.reserved s.charged told in
        let one : unfinished_on it.row ≡ cond (is_unfinished s.state) 1 0 = ap (λ x. cond (is_unfinished x) 1 0) state in
        let units : reserved_on it.row ≡ s.reserved = ap (λ v. natural_in (integer_in v)) told.reserved in
        let more : charged_on it.row ≡ s.charged = ap (λ v. natural_in (integer_in v)) told.charged in
        let unfinished : it.so_far.unfinished + cond (is_unfinished s.state) 1 0 ≤ (tally_of jobs).unfinished = omega (arith, adds.unfinished, within unfinished_on, unfinished_told, one) in
        let reserved : it.so_far.reserved + s.reserved ≤ (tally_of jobs).reserved = omega (arith, adds.reserved, within reserved_on, sum_told reserved_on, units) in
        let charged : it.so_far.charged + s.charged ≤ (tally_of jobs).charged = omega (arith, adds.charged, within charged_on, sum_told charged_on, more) in
        let fits : IsTrue (is_in_bounds (counted it.so_far s.state s.reserved s.charged)) = three_lower _ _ _ _ _ _ unfinished reserved charged bounds in
        let no = sym (counted_some it.so_far s.state s.reserved s.charged fits) ∙ it.refused s.state s.reserved s.charged told in
        cc

  pub jobs_unsound : RefusesOne CountsJob refuses_job shown (tally_of []) → CanBeCounted name rows → ⊥
  jobs_unsound it can = none_refused can.jobs can.are_theirs can.in_bounds it

pub jobs_counted : (db : Database) → HasSchema db → (name : List ℕ) → IsSound db name → CanBeCounted name (job_rows db name)
jobs_counted db has name (None, held) = record { jobs = []; are_theirs = no_jobs db has name held; in_bounds = refl }
jobs_counted db has name (Some room, held) = record { jobs = values room.jobs; are_theirs = rows_of_jobs db has name room held; in_bounds = room_in_bounds room held.is_room }
