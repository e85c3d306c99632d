-- The jobs of an account in the orders of Get-Jobs: which rows the walks ask for.
use Rattle.std.proofs.Common.{◌≡◌, ℕ, zero, suc, pos, negsuc, Bool, true, false, not, ◌&&◌, List, [], ◌∷◌, drop, Option, None, Some, IsSome, refl, sym, int_cmp, Greater, arith}
use Rattle.std.proofs.lemmas.Bool.{true≢false}
use Rattle.std.proofs.lemmas.Bool.Decides.{nat_tests}
use Rattle.std.proofs.lemmas.Int.{ints}
use Rattle.sqlite_value.specs.declared.value.Value.TheVariants.{Null, Int, Text}
use Rattle.sqlite_value.specs.declared.keys.Collation.TheVariants.{Binary}
use Rattle.sqlite_value.specs.Order.{Row}
use Rattle.sqlite_value.specs.Keys.{plain, first_key}
use Rattle.sqlite_value.proofs.OrderLemmas.{value_cmp-Int}
use Rattle.sqlite_sql.specs.declared.ops.BinaryOp.TheVariants.{Compare}
use Rattle.sqlite_sql.specs.declared.ops.CompareOp.TheVariants.{Eq, Ge}
use Rattle.sqlite_sql.specs.Ops.{binary, is_true}
use Rattle.sqlite_schema.specs.Rules.{agree}
use Rattle.account_rules.specs.JobStates.{is_unfinished}
use Rattle.account_rules.specs.Standings.{KeepsToState}
use Rattle.account_rules.specs.declared.job.Standing.{Standing}
use Rattle.account_rules.specs.declared.job.JobState.{JobState}
use Rattle.account_rules.specs.declared.job.JobState.TheVariants.{Held, Pending, Processing, Canceled, Aborted, Completed}
use Rattle.rows_tables.specs.Places.{account_places}
use Rattle.rows_tables.specs.Queries.{passes}
use Rattle.rows_tables.specs.Cells.{moment}
use Rattle.rows_statements.specs.SoundRows.{tells_unfinished, tells_ended}
use Rattle.rows_statements.proofs.QueueTexts.{params, unfinished_tests, ended_tests}

-- the tests ask for the account, and then for the state
abbrev pub of_account : List ℕ → Row → Bool
of_account name row = agree plain account_places row account_places (Null ∷ Text name ∷ [])

pub regrouped : (a b : Bool) → (a && (b && true)) ≡ ((a && true) && b)
regrouped true true = refl
regrouped true false = refl
regrouped false b = refl

-- ---- a moment of an end, or none

abbrev is_early : Option ℕ → Bool
is_early at = is_true (binary (Compare Eq Binary) (moment at) (Int (negsuc 0)))

abbrev is_late : Option ℕ → Bool
is_late at = is_true (binary (Compare Ge Binary) (moment at) (Int (pos 0)))

early_none : (at : Option ℕ) → at ≡ None → is_early at ≡ true
unfolding binary
early_none at none = rw none (rw (value_cmp-Int (negsuc 0) (negsuc 0)) refl)

early_some : (at : Option ℕ) → IsSome at → is_early at ≡ false
unfolding binary
early_some None some = absurd (true≢false (sym some))
early_some (Some n) some = rw (value_cmp-Int (pos n) (negsuc 0)) refl

late_none : (at : Option ℕ) → at ≡ None → is_late at ≡ false
unfolding binary
late_none at none = rw none (rw (value_cmp-Int (negsuc 0) (pos 0)) refl)

int_more : (n : ℕ) → int_cmp (pos (suc n)) (pos 0) ≡ Greater
int_more n = grind (arith, ints, nat_tests)

late_some : (at : Option ℕ) → IsSome at → is_late at ≡ true
unfolding binary
late_some None some = absurd (true≢false (sym some))
late_some (Some zero) some = rw (value_cmp-Int (pos 0) (pos 0)) refl
late_some (Some (suc n)) some = rw (value_cmp-Int (pos (suc n)) (pos 0), int_more n) refl

-- which of them a job has is told by its state
pub early_state : (state : JobState) (s : Standing) → KeepsToState state s → is_early s.ended ≡ is_unfinished state
early_state Held s keeps = early_none s.ended keeps.unfinished.has_not_ended
early_state Pending s keeps = early_none s.ended keeps.released.unfinished.has_not_ended
early_state Processing s keeps = early_none s.ended keeps.released.unfinished.has_not_ended
early_state Canceled s keeps = early_some s.ended keeps.has_ended
early_state Aborted s keeps = early_some s.ended keeps.has_ended
early_state Completed s keeps = early_some s.ended keeps.has_ended

pub late_state : (state : JobState) (s : Standing) → KeepsToState state s → is_late s.ended ≡ not (is_unfinished state)
late_state Held s keeps = late_none s.ended keeps.unfinished.has_not_ended
late_state Pending s keeps = late_none s.ended keeps.released.unfinished.has_not_ended
late_state Processing s keeps = late_none s.ended keeps.released.unfinished.has_not_ended
late_state Canceled s keeps = late_some s.ended keeps.has_ended
late_state Aborted s keeps = late_some s.ended keeps.has_ended
late_state Completed s keeps = late_some s.ended keeps.has_ended

-- ---- a row

module _ (name : List ℕ) (limit : Option ℕ) where
  pub asks_early : (r : Row) → passes unfinished_tests (params name limit) r ≡ (of_account name r && tells_unfinished (drop 1 r))
  unfolding first_key
  asks_early [] = regrouped _ _
  asks_early (v ∷ r) = regrouped _ _

  pub asks_late : (r : Row) → passes ended_tests (params name limit) r ≡ (of_account name r && tells_ended (drop 1 r))
  unfolding first_key
  asks_late [] = regrouped _ _
  asks_late (v ∷ r) = regrouped _ _
