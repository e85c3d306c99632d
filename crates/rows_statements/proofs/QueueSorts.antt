-- The jobs of an account in the orders of Get-Jobs: what the walks show of a row, and by what they sort.
use Rattle.std.proofs.Common.{◌≡◌, ℕ, ◌<◌, pos, List, [], ◌∷◌, drop, Option, None, Some, IsSome, unwrap_or, refl, sym, ap, ◌⊎◌, inl, inr, Ordering, Less, Equal, Greater, int_cmp, arith}
use Rattle.std.specs.List.{AllByRecursion}
use Rattle.std.specs.Ordering.{ordering_then}
use Rattle.std.proofs.lemmas.Bool.{true≢false}
use Rattle.std.proofs.lemmas.Bool.Decides.{nat_tests}
use Rattle.std.proofs.lemmas.Int.{ints}
use Rattle.sqlite_value.specs.Order.{Row, value_cmp}
use Rattle.sqlite_value.proofs.OrderLemmas.{value_cmp-Int}
use Rattle.sqlite_trees.specs.Tree.{IsAscending}
use Rattle.sqlite_trees.proofs.ListLemmas.{all_weaker, all_both}
use Rattle.sqlite_sql.specs.Query.{Output, output, output_cmp}
use Rattle.account_rules.specs.declared.job.Job.{Job}
use Rattle.account_state.specs.RoomRules.{NumbersRise}
use Rattle.account_state.specs.Queues.{EndsLater, EndsFall}
use Rattle.rows_tables.specs.Places.{job_column, cell}
use Rattle.rows_tables.specs.Cells.{number, moment, job_cells}
use Rattle.rows_statements.specs.Queues.{by_falling_end, by_rising_number, numbered_cells}
use Rattle.rows_tables.proofs.Queries.{env}
use Rattle.rows_statements.proofs.QueueTexts.{params, unfinished_query, ended_query}

-- what is shown of a row, its number not among it
abbrev pub with_number : Row → Row
with_number cells =
    cell job_column.name cells ∷ cell job_column.password cells ∷ cell job_column.state cells ∷ cell job_column.is_open cells ∷ cell job_column.stopping cells ∷ cell job_column.copies cells ∷ cell job_column.impressions cells ∷ cell job_column.reserved cells ∷ cell job_column.charged cells
    ∷ cell job_column.documents cells ∷ cell job_column.rate cells ∷ cell job_column.device cells ∷ cell job_column.created cells ∷ cell job_column.started cells ∷ cell job_column.ended cells ∷ cell job_column.job cells ∷ []

abbrev pub told_by : (Row → Row) → Row → Output
told_by sorts cells = (sorts cells, with_number cells)

abbrev pub job_told : (Row → Row) → List ℕ → Job → Output
job_told sorts name it = (sorts (job_cells name it), numbered_cells it)

-- ---- numbers and moments in order

int_less : (m n : ℕ) → m < n → int_cmp (pos m) (pos n) ≡ Less
int_less m n h = grind (arith, ints, nat_tests)

int_same : (m n : ℕ) → m ≡ n → int_cmp (pos m) (pos n) ≡ Equal
int_same m n h = grind (arith, ints, nat_tests)

pub number_less : (m n : ℕ) → m < n → ordering_then (value_cmp (number m) (number n)) Equal ≡ Less
number_less m n h = rw (value_cmp-Int (pos m) (pos n), int_less m n h) refl

falls : (a b : Option ℕ) (m n : ℕ) → IsSome a → IsSome b → (unwrap_or b 0 < unwrap_or a 0) ⊎ ((unwrap_or a 0 ≡ unwrap_or b 0) × (n < m))
    → ordering_then (value_cmp (moment b) (moment a)) (ordering_then (value_cmp (number n) (number m)) Equal) ≡ Less
falls None b m n first second later = absurd (true≢false (sym first))
falls (Some x) None m n first second later = absurd (true≢false (sym second))
falls (Some x) (Some y) m n first second (inl h) = rw (value_cmp-Int (pos y) (pos x), int_less y x h) refl
falls (Some x) (Some y) m n first second (inr h) = rw (value_cmp-Int (pos y) (pos x), int_same y x (sym h.0)) (number_less n m h.1)

-- ---- the orders of rows

then_equal : (o : Ordering) → o ≡ ordering_then o Equal
then_equal Less = refl
then_equal Equal = refl
then_equal Greater = refl

-- ---- those that have not ended, by number

abbrev pub by_number : Row → Row
by_number cells = cell job_column.job cells ∷ []

module _ (name : List ℕ) (limit : Option ℕ) where
  pub early_outputs : (r : Row) → output unfinished_query (env (params name limit) r) ≡ told_by by_number (drop 1 r)
  early_outputs [] = refl
  early_outputs (v ∷ r) = refl

  pub rises_by : (a b : Row) → by_rising_number a b ≡ output_cmp unfinished_query (told_by by_number a) (told_by by_number b)
  rises_by a b = then_equal (value_cmp (cell job_column.job a) (cell job_column.job b))

  pub early_rise : (jobs : List Job) → NumbersRise jobs
      → IsAscending (λ a b. output_cmp unfinished_query (job_told by_number name a) (job_told by_number name b) ≡ Less) jobs
  early_rise [] rising = tt
  early_rise (it ∷ jobs) rising = (all_weaker (λ later. it.job < later.job) _ (λ (later : Job) h. number_less it.job later.job h) jobs rising.0, early_rise jobs rising.1)

-- ---- those that have, by their end

abbrev pub by_end : Row → Row
by_end cells = cell job_column.ended cells ∷ cell job_column.job cells ∷ []

module _ (name : List ℕ) (limit : Option ℕ) where
  pub late_outputs : (r : Row) → output ended_query (env (params name limit) r) ≡ told_by by_end (drop 1 r)
  late_outputs [] = refl
  late_outputs (v ∷ r) = refl

  pub falls_by : (a b : Row) → by_falling_end a b ≡ output_cmp ended_query (told_by by_end a) (told_by by_end b)
  falls_by a b = ap (ordering_then (value_cmp (cell job_column.ended b) (cell job_column.ended a))) (then_equal (value_cmp (cell job_column.job b) (cell job_column.job a)))

  pub late_fall : (jobs : List Job) → AllByRecursion (λ (it : Job). IsSome it.standing.ended) jobs → EndsFall jobs → IsAscending (λ a b. output_cmp ended_query (job_told by_end name a) (job_told by_end name b) ≡ Less) jobs
  late_fall [] ended fall = tt
  late_fall (it ∷ jobs) ended fall =
      (all_both (EndsLater it) (λ (later : Job). IsSome later.standing.ended) _ (λ (later : Job) h some. falls it.standing.ended later.standing.ended it.job later.job ended.0 some h) jobs fall.0 ended.1, late_fall jobs ended.1 fall.1)
