-- The walk over the jobs of an account for a statement: what its text means, and what it sums.
use Rattle.std.proofs.Common.{◌≡◌, ℕ, ℤ, pos, negsuc, ◌+◌, ◌-◌, ◌≤◌, Bool, true, false, cond, List, [], ◌∷◌, length, map, drop, codes, All, Option, Some, None, IfSome, IsPermutation, refl, sym, ap, subst, ◌∙◌, IsTrue, arith}
use Rattle.std.specs.List.{sum_by}
use Rattle.std.specs.FinMap.{values, entries}
use Rattle.std.proofs.lemmas.List.{length-map}
use Rattle.std.proofs.lemmas.List.Elements.{All-nil, All-from_recursion, recursion_from_All}
use Rattle.std.proofs.lemmas.List.Sums.{sum_by-cons, sum_by-le-sum_by, count_by-le-length}
use Rattle.std.proofs.lemmas.List.Sorted.{IsPermutation-map, IsPermutation-sym, sum_by-IsPermutation}
use Rattle.sqlite_tied.specs.Compute.{everything}
use Rattle.sqlite_value.specs.declared.value.Value.TheVariants.{Text}
use Rattle.sqlite_value.specs.Order.{Row, column}
use Rattle.sqlite_value.specs.Keys.{first_key}
use Rattle.sqlite_trees.proofs.ListLemmas.{map-map}
use Rattle.sqlite_sql.specs.Term.{Term, col}
use Rattle.sqlite_rules.proofs.ListLemmas.{all_has}
use Rattle.sqlite_rules.proofs.ProbeLemmas.{has_mapped}
use Rattle.sqlite.specs.Effect.{Database}
use Rattle.sqlite.specs.Listing.{understood}
use Rattle.account_state.specs.Summaries.{beyond, charged_then, is_held, is_in_month, is_pending, summary_of}
use Rattle.account_state.specs.declared.summary.Summary.{Summary}
use Rattle.account_rules.specs.JobStates.{is_processing}
use Rattle.account_rules.specs.Limits.{last_next_job, most_units, IsMoment}
use Rattle.account_rules.specs.Quota.{need_of}
use Rattle.account_rules.specs.declared.job.Job.{Job}
use Rattle.account_state.specs.Rooms.{RoomValue}
use Rattle.account_state.specs.RoomRules.{IsRoom}
use Rattle.account_state.specs.Tallies.{tally_of, is_in_bounds}
use Rattle.account_state.proofs.FiniteMaps.{entries_few}
use Rattle.account_state.proofs.JobMaps.{values_keep}
use Rattle.account_state.proofs.TallyLemmas.{room_in_bounds}
use Rattle.rows_tables.specs.Places.{job_tree, job_column, account_places}
use Rattle.rows_tables.specs.Tables.{room_schema, job}
use Rattle.rows_tables.specs.Keyed.{HasSchema, rows_under}
use Rattle.rows_tables.specs.Queries.{Means, TakesParams, of_table, is_given, shown_of}
use Rattle.rows_tables.specs.Cells.{job_cells, moment}
use Rattle.rows_tables.specs.Accounts.{IsSound}
use Rattle.rows_tables.proofs.Queries.{permuted_has}
use Rattle.rows_tables.proofs.ReadBackLemmas.{integer_in, natural_in, state_in, state_read}
use Rattle.rows_statements.specs.Summed.{gathers_summed, refuses_summed, sum_of, summary_of_job, summed_cells, IsInBounds, TellsSummary, TellsSummed}
use Rattle.rows_statements.specs.SoundRows.{job_rows, CanBeSummed}
use Rattle.rows_statements.specs.Walks.{GathersAll, HasGathered, WalksAll, RefusesOne}
use Rattle.rows_statements.specs.declared.summaries.Summed.{Summed}
use Rattle.rows_statements.proofs.AccountRows.{rows_of_jobs, no_jobs}
use Rattle.rows_statements.proofs.RowTotals.{of_their_cells, sum_mapped, refused_there, refused_within}
use Rattle.rows_statements.proofs.TallyWalk.{units_of}

abbrev pub summed_text : List ℕ
summed_text = codes "SELECT state, reserved, charged, ended, impressions, copies, rate FROM job WHERE account = ?1"

abbrev pub summed_tests : List Term
summed_tests = is_given job_column.account 1 ∷ []

abbrev pub summed_shows : List Term
summed_shows = col 1 job_column.state ∷ col 1 job_column.reserved ∷ col 1 job_column.charged ∷ col 1 job_column.ended ∷ col 1 job_column.impressions ∷ col 1 job_column.copies ∷ col 1 job_column.rate ∷ []

abbrev pub summed_names : List (List ℕ)
summed_names = codes "state" ∷ codes "reserved" ∷ codes "charged" ∷ codes "ended" ∷ codes "impressions" ∷ codes "copies" ∷ codes "rate" ∷ []

pub summed_is : Means room_schema summed_text (of_table job_tree summed_tests summed_shows []) summed_names 1
unfolding understood everything
summed_is = record { is = refl; lists_nothing = refl; is_plain = (refl, refl); takes = refl; is_whole = refl }

pub summed_takes : (name : List ℕ) → TakesParams room_schema (of_table job_tree summed_tests summed_shows []) (Text name ∷ []) 1
summed_takes name = record { given = refl; typed = refl }

cells_summed : (r : Row) → column r job_column.state ∷ column r job_column.reserved ∷ column r job_column.charged ∷ column r job_column.ended ∷ column r job_column.impressions ∷ column r job_column.copies ∷ column r job_column.rate ∷ [] ≡ summed_cells (drop 1 r)
cells_summed [] = refl
cells_summed (v ∷ r) = refl

-- the rows that pass the test of the text are those of the account
pub jobs_shown : (name : List ℕ) (db : Database) → shown_of job_tree summed_tests summed_shows (Text name ∷ []) db.trees ≡ map summed_cells (rows_under job account_places (Text name ∷ []) db)
unfolding first_key
jobs_shown name db = of_their_cells (λ r. column r job_column.state ∷ column r job_column.reserved ∷ column r job_column.charged ∷ column r job_column.ended ∷ column r job_column.impressions ∷ column r job_column.copies ∷ column r job_column.rate ∷ []) summed_cells cells_summed _

-- ---- what the rows tell

abbrev moment_in : ℤ → Option ℕ
moment_in (pos n) = Some n
moment_in (negsuc n) = None

moment_read : (at : Option ℕ) → moment_in (integer_in (moment at)) ≡ at
moment_read None = refl
moment_read (Some at) = refl

abbrev summary_on : (month : ℕ) → Row → Summary
summary_on month row =
    let natural = λ (at : ℕ). natural_in (integer_in (column row at)) in
    summary_of_job month (state_in (natural 0)) (natural 1) (natural 2) (beyond (natural 2) (natural 4) (natural 5) (natural 6)) (moment_in (integer_in (column row 3)))

summary_told : (month : ℕ) (row : Row) (summary : Summary) → TellsSummary month row summary → summary_on month row ≡ summary
summary_told month row summary it =
    let state = ap (λ v. state_in (natural_in (integer_in v))) it.told.counted.state ∙ state_read it.state in
    let ended = ap (λ v. moment_in (integer_in v)) it.told.ended ∙ moment_read it.ended in
    let more = it.told.beyond in
    let charged : natural_in (integer_in (column row 2)) ≡ it.charged = (λ i. natural_in (integer_in (it.told.counted.charged i))) in
    let further : beyond (natural_in (integer_in (column row 2))) (natural_in (integer_in (column row 4))) (natural_in (integer_in (column row 5))) (natural_in (integer_in (column row 6))) ≡ it.further =
    (λ i. beyond (charged i) (natural_in (integer_in (more.told_impressions i))) (natural_in (integer_in (more.told_copies i))) (natural_in (integer_in (more.told_rate i)))) ∙ sym more.is in
    let same : summary_on month row ≡ summary_of_job month it.state it.reserved it.charged it.further it.ended =
    (λ i. summary_of_job month (state i) (natural_in (integer_in (it.told.counted.reserved i))) (charged i) (further i) (ended i)) in
    same ∙ sym it.is

-- ---- the numbers of a summary, each of which is summed

abbrev of_one : (month : ℕ) → Job → Summary
of_one month it =
    let s = it.standing in
    summary_of_job month s.state s.reserved s.charged (beyond s.charged s.impressions s.copies s.rate) s.ended

record Number : Type 0 where
  of : Summary → ℕ
  adds : (summary more : Summary) → of (sum_of summary more) ≡ of summary + of more
  sums : (month : ℕ) (jobs : List Job) → of (summary_of month jobs) ≡ sum_by (λ it. of (of_one month it)) jobs
  bounded : (summary : Summary) → IsInBounds summary → of summary ≤ most_units

abbrev reserved_of : Number
reserved_of = record { of = λ s. s.reserved; adds = λ s more. refl; sums = λ month jobs. refl; bounded = λ s within. within.reserved }

abbrev charged_of : Number
charged_of = record { of = λ s. s.charged; adds = λ s more. refl; sums = λ month jobs. refl; bounded = λ s within. within.charged }

abbrev charged_then_of : Number
charged_then_of = record { of = λ s. s.charged_then; adds = λ s more. refl; sums = λ month jobs. refl; bounded = λ s within. within.charged_then }

abbrev beyond_then_of : Number
beyond_then_of = record { of = λ s. s.beyond_then; adds = λ s more. refl; sums = λ month jobs. refl; bounded = λ s within. within.beyond_then }

abbrev held_of : Number
held_of = record { of = λ s. s.held; adds = λ s more. refl; sums = λ month jobs. refl; bounded = λ s within. within.held }

abbrev pending_of : Number
pending_of = record { of = λ s. s.pending; adds = λ s more. refl; sums = λ month jobs. refl; bounded = λ s within. within.pending }

abbrev processing_of : Number
processing_of = record { of = λ s. s.processing; adds = λ s more. refl; sums = λ month jobs. refl; bounded = λ s within. within.processing }

abbrev ended_then_of : Number
ended_then_of = record { of = λ s. s.ended_then; adds = λ s more. refl; sums = λ month jobs. refl; bounded = λ s within. within.ended_then }

-- two summaries with the same numbers are one
all_same : (a b : Summary) → ((n : Number) → n.of a ≡ n.of b) → a ≡ b
all_same a b same = λ i. record {
  reserved = same reserved_of i;
  charged = same charged_of i;
  charged_then = same charged_then_of i;
  beyond_then = same beyond_then_of i;
  held = same held_of i;
  pending = same pending_of i;
  processing = same processing_of i;
  ended_then = same ended_then_of i;
}

all_within : (s : Summary) → ((n : Number) → n.of s ≤ most_units) → IsInBounds s
all_within s within = record {
  reserved = within reserved_of;
  charged = within charged_of;
  charged_then = within charged_then_of;
  beyond_then = within beyond_then_of;
  held = within held_of;
  pending = within pending_of;
  processing = within processing_of;
  ended_then = within ended_then_of;
}

month_stays : (first last : Summed) (rows : List Row) → GathersAll gathers_summed first rows last → last.month ≡ first.month
month_stays first last [] same = ap (λ (s : Summed). s.month) (sym same)
month_stays first last (r ∷ rows) (next, step, more) = month_stays next last rows more ∙ step.0

adds_up : (n : Number) (first last : Summed) (rows : List Row) → GathersAll gathers_summed first rows last → n.of last.summary ≡ n.of first.summary + sum_by (λ r. n.of (summary_on first.month r)) rows
adds_up n first last [] same = omega (arith, ap (λ (s : Summed). n.of s.summary) same)
adds_up n first last (r ∷ rows) (next, step, more) =
    let on = λ (month : ℕ) (r : Row). n.of (summary_on month r) in
    let it = step.1 in
    let added : n.of next.summary ≡ n.of first.summary + n.of it.job = ap n.of it.added ∙ n.adds first.summary it.job in
    let one : on first.month r ≡ n.of it.job = ap n.of (summary_told first.month r it.job it.told) in
    let others : sum_by (on next.month) rows ≡ sum_by (on first.month) rows = ap (λ month. sum_by (on month) rows) step.0 in
    omega (arith, adds_up n next last rows more, others, added, one, sum_by-cons (on first.month) r rows)

-- whatever the rows, what they come to stays within the bounds
summed_within : (first last : Summed) (rows : List Row) → GathersAll gathers_summed first rows last → IsInBounds first.summary → IsInBounds last.summary
summed_within first last [] same within = subst (λ (s : Summed). IsInBounds s.summary) same within
summed_within first last (r ∷ rows) (next, step, more) within = summed_within next last rows more step.1.within

abbrev pub nothing : (month : ℕ) → Summed
nothing month = record { month = month; summary = summary_of month [] }

pub units_within : (month : ℕ) (last : Summed) → HasGathered gathers_summed (nothing month) last → (last.summary.reserved ≤ most_units) × (last.summary.charged ≤ most_units)
units_within month last (rows, gathered) =
    let within = summed_within (nothing month) last rows gathered (all_within (summary_of month []) (λ n. omega (arith, n.sums month []))) in
    (within.reserved, within.charged)

-- ---- what jobs come to

-- what is in one month of a part of each job's charge is within all that the jobs were charged
part_within : (month : ℕ) (part : Job → ℕ) (within : (it : Job) → part it ≤ it.standing.charged) (jobs : List Job)
    → sum_by (λ (it : Job). charged_then month it.standing.ended (part it)) jobs ≤ (summary_of month jobs).charged
part_within month part within jobs =
    sum_by-le-sum_by (λ (it : Job). charged_then month it.standing.ended (part it)) (λ (it : Job). it.standing.charged) jobs
    (λ it. one (is_in_month month it.standing.ended) (part it) it.standing.charged (within it))
  where
    one : (b : Bool) (units most : ℕ) → units ≤ most → cond b units 0 ≤ most
    one true units most within = within
    one false units most within = omega arith

beyond_within : (units need : ℕ) → units - need ≤ units
beyond_within units need = omega arith

jobs_within : (month : ℕ) (jobs : List Job) → IsTrue (is_in_bounds (tally_of jobs)) → length jobs ≤ last_next_job → IsInBounds (summary_of month jobs)
jobs_within month jobs within few =
    let units = units_of (tally_of jobs) within in
    let charged = part_within month (λ (it : Job). it.standing.charged) (λ it. omega arith) jobs in
    let further = part_within month (λ (it : Job). let s = it.standing in beyond s.charged s.impressions s.copies s.rate)
    (λ it. let s = it.standing in beyond_within s.charged (need_of s.impressions s.copies s.rate)) jobs in
    record {
      reserved = units.0;
      charged = units.1;
      charged_then = omega (arith, charged, units.1);
      beyond_then = omega (arith, further, units.1);
      held = omega (arith, few, count_by-le-length (λ (it : Job). is_held it.standing.state) jobs);
      pending = omega (arith, few, count_by-le-length (λ (it : Job). is_pending it.standing.state) jobs);
      processing = omega (arith, few, count_by-le-length (λ (it : Job). is_processing it.standing.state) jobs);
      ended_then = omega (arith, few, count_by-le-length (λ (it : Job). is_in_month month it.standing.ended) jobs);
    }

-- ---- the rows of a room

abbrev told_of : List ℕ → Job → Row
told_of name it = summed_cells (job_cells name it)

module _ (name : List ℕ) (month : ℕ) (rows : List Row) where
  abbrev shown : List Row
  shown = map summed_cells rows

  abbrev first : Summed
  first = nothing month

  -- where they are those of some jobs
  module _ (jobs : List Job) (theirs : IsPermutation rows (map (job_cells name) jobs)) where
    shown_told : IsPermutation shown (map (told_of name) jobs)
    shown_told = subst (IsPermutation shown) (map-map summed_cells (job_cells name) jobs) (IsPermutation-map summed_cells rows (map (job_cells name) jobs) theirs)

    job_told : (it : Job) → summary_on month (told_of name it) ≡ of_one month it
    job_told it = let s = it.standing in λ i. summary_of_job month (state_read s.state i) s.reserved s.charged (beyond s.charged s.impressions s.copies s.rate) (moment_read s.ended i)

    sum_told : (n : Number) → sum_by (λ r. n.of (summary_on month r)) shown ≡ n.of (summary_of month jobs)
    sum_told n =
        let on = λ (r : Row). n.of (summary_on month r) in
        sym (sum_by-IsPermutation on shown (map (told_of name) jobs) shown_told) ∙ sum_mapped (told_of name) on jobs ∙ (λ i. sum_by (λ (it : Job). n.of (job_told it i)) jobs) ∙ sym (n.sums month jobs)

    starts : (n : Number) → n.of first.summary ≡ 0
    starts n = n.sums month []

    pub jobs_summed : (last : Summed) → WalksAll gathers_summed refuses_summed shown first last → last.summary ≡ summary_of month jobs
    jobs_summed last (given, same, gathered) =
        all_same last.summary (summary_of month jobs) (λ n. let on = λ (r : Row). n.of (summary_on month r) in omega (arith, starts n, adds_up n first last given gathered, sum_by-IsPermutation on shown given same, sum_told n))

    -- a job of them is never refused where they come to no more than jobs can
    none_refused : IsInBounds (summary_of month jobs) → All (λ (it : Job). IfSome it.standing.ended IsMoment) jobs → RefusesOne gathers_summed refuses_summed shown first → ⊥
    none_refused bounds at_moments it =
        let there = permuted_has (map (told_of name) jobs) shown it.row (IsPermutation-sym _ _ shown_told) (refused_there gathers_summed refuses_summed shown first it) in
        let here = has_mapped (told_of name) jobs it.row there in
        let s = here.0.standing in
        let moments = recursion_from_All (λ (it : Job). IfSome it.standing.ended IsMoment) jobs at_moments in
        let further = beyond s.charged s.impressions s.copies s.rate in
        let told : TellsSummed it.row s.state s.reserved s.charged further s.ended = record {
          counted = record { state = ap (λ r. column r 0) here.2; reserved = ap (λ r. column r 1) here.2; charged = ap (λ r. column r 2) here.2 };
          beyond = record {
            impressions = s.impressions;
            copies = s.copies;
            rate = s.rate;
            told_impressions = ap (λ r. column r 4) here.2;
            told_copies = ap (λ r. column r 5) here.2;
            told_rate = ap (λ r. column r 6) here.2;
            is = refl;
          };
          ended = ap (λ r. column r 3) here.2;
          at_moment = all_has (λ (it : Job). IfSome it.standing.ended IsMoment) jobs here.0 moments here.1;
        } in
        let month_now : it.so_far.month ≡ month = month_stays first it.so_far it.given it.gathered in
        let so_far = it.so_far.summary in
        let one = of_one month here.0 in
        let tells : TellsSummary month it.row one = record { state = s.state; reserved = s.reserved; charged = s.charged; further = further; ended = s.ended; told = told; is = refl } in
        let fits : IsInBounds (sum_of so_far one) = all_within (sum_of so_far one) (λ n.
        let on = λ (r : Row). n.of (summary_on month r) in
        omega (
          arith,
          n.bounded (summary_of month jobs) bounds,
          n.adds so_far one,
          starts n,
          adds_up n first it.so_far it.given it.gathered,
          ap n.of (summary_told month it.row one tells),
          refused_within gathers_summed refuses_summed shown first it on,
          sum_told n,
        )) in
        it.refused one (subst (λ month. TellsSummary month it.row one) (sym month_now) tells) fits

  pub jobs_unsound : RefusesOne gathers_summed refuses_summed shown first → CanBeSummed name rows → ⊥
  jobs_unsound it can = none_refused can.jobs can.are_theirs (jobs_within month can.jobs can.in_bounds can.few) can.at_moments it

-- a room has few jobs, each of which ended at a moment or has not
few_jobs : (room : RoomValue) → IsRoom room → length (values room.jobs) ≤ last_next_job
few_jobs room rules =
    let few : length (entries room.jobs) + 1 ≤ room.next = entries_few room.jobs 1 room.next rules.next_from_one (λ number it here. let at = rules.jobs number it here in (at.from_one, at.below_next)) in
    omega (arith, few, rules.next_in_range, length-map (entries room.jobs) (λ (e : ℕ × Job). e.1))

ended_at_moments : (room : RoomValue) → IsRoom room → All (λ (it : Job). IfSome it.standing.ended IsMoment) (values room.jobs)
ended_at_moments room rules =
    All-from_recursion (λ (it : Job). IfSome it.standing.ended IsMoment) (values room.jobs)
    (values_keep (λ _ (it : Job). IfSome it.standing.ended IsMoment) room.jobs (λ n it here. let at = rules.jobs n it here in (at.numbered, at.standing.ranges.ended_in_range)))

pub summed_read : (db : Database) → HasSchema db → (name : List ℕ) → IsSound db name → CanBeSummed name (job_rows db name)
summed_read db has name (None, held) = record { jobs = []; are_theirs = no_jobs db has name held; in_bounds = refl; few = omega arith; at_moments = All-nil (λ (it : Job). IfSome it.standing.ended IsMoment) }
summed_read db has name (Some room, held) = record {
  jobs = values room.jobs;
  are_theirs = rows_of_jobs db has name room held;
  in_bounds = room_in_bounds room held.is_room;
  few = few_jobs room held.is_room;
  at_moments = ended_at_moments room held.is_room;
}
