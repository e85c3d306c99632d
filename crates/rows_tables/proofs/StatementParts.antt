-- The parts of a statement that writes: each that gave a value went on, and what its query found; how cells are cast and compared.
use Rattle.std.proofs.Common.{◌≡◌, ℕ, ℤ, Bool, true, false, cond, List, [], ◌∷◌, Option, Some, Result, Ok, Err, refl, ◌⊎◌, inl, inr, is_eq, Equal, ◌||◌}
use Rattle.std.proofs.lemmas.Cmp.{tied_itself}
use Rattle.sqlite_value.specs.declared.value.Value.{Value}
use Rattle.sqlite_value.specs.declared.value.Value.TheVariants.{Null, Int}
use Rattle.sqlite_value.specs.declared.keys.Collation.TheVariants.{Binary}
use Rattle.sqlite_value.specs.Order.{Row, value_cmp}
use Rattle.sqlite_value.proofs.OrderLemmas.{value_cmp_total}
use Rattle.sqlite_trees.specs.Tree.{Trees, rowid}
use Rattle.sqlite_sql.specs.Ops.{unary, binary, is_null, is_true, from_truth}
use Rattle.sqlite_sql.specs.Term.{Term, col}
use Rattle.sqlite_schema.specs.declared.schema.Table.{Table}
use Rattle.sqlite_schema.specs.declared.schema.Keys.TheVariants.{Enforced}
use Rattle.sqlite_schema.specs.declared.schema.Kind.TheVariants.{Integer}
use Rattle.sqlite_schema.specs.Rules.{equal}
use Rattle.sqlite_rules.specs.Cast.{cast}
use Rattle.sqlite.specs.Effect.{Answers}
use Rattle.sqlite.specs.Rows.{Task}
use Rattle.rows_tables.specs.Places.{row_number}
use Rattle.rows_tables.specs.Tables.{room_schema}
use Rattle.rows_tables.specs.Queries.{of_table, passes, shows_of}
use Rattle.rows_tables.proofs.Edits.{AreFound, tie_of}
use Rattle.rows_tables.proofs.Queries.{answer_is, finds_numbers}

-- a part that gave a value did not stop on the way
pub went : {B E R : Type 0} {b : B} {Stops : E → Type 0} → ((stop : E) × Stops stop × (Ok b ≡ Err stop)) ⊎ R → R
went (inl stopped) = absurd (let e = stopped.2 in cc)
went (inr on) = on

pub same_value : {B E : Type 0} {a b : B} → ◌≡◌ {A = Result B E} (Ok a) (Ok b) → a ≡ b
same_value e = cc

pub never : {B E R : Type 0} {b : B} {e : E} → ◌≡◌ {A = Result B E} (Ok b) (Err e) → R
never e = absurd cc

either_way : {X : Type 0} (b : Bool) (x : X) → cond b x x ≡ x
either_way true x = refl
either_way false x = refl

-- an integer column keeps an integer, and NULL
pub cast_integer : (n : ℤ) → cast Integer (Int n) ≡ Int n
unfolding unary
cast_integer n = either_way _ (Int n)

pub cast_null : cast Integer Null ≡ Null
unfolding unary
cast_null = either_way _ Null

-- SQL's = of two values that it finds equal
pub equal_ties : (a b : Value) → equal Binary a b ≡ true → value_cmp a b ≡ Equal
unfolding binary
equal_ties a b h = tie_of (value_cmp a b) (by_null (is_null a || is_null b) (is_eq (value_cmp a b)) h)
  where
    by_null : (null test : Bool) → is_true (cond null Null (from_truth (Some test))) ≡ true → test ≡ true
    by_null true test k = absurd cc
    by_null false true k = refl
    by_null false false k = absurd cc

pub integer_equal : (n : ℤ) → equal Binary (Int n) (Int n) ≡ true
unfolding binary
integer_equal n = rw (tied_itself value_cmp_total (Int n)) refl

abbrev pub task_of : Option ℕ → Row → Table → Task
task_of limit params table = record { limit = limit; keys = Enforced; schema = room_schema; table = table; params = params }

-- what a query that shows the row number first found
pub found_by : (tree : ℕ) (tests more : List Term) (trees : Trees) (params : Row) (found : List Row)
    → Answers (record { schema = room_schema; trees = trees }) (record { lets = []; body = of_table tree tests (col 1 row_number ∷ more) [] }) params found
    → ((r : Row) → rowid (shows_of (col 1 row_number ∷ more) params r) ≡ rowid r) → AreFound (passes tests params) (trees tree) found
found_by tree tests more trees params found answers first =
    finds_numbers (passes tests params) (shows_of (col 1 row_number ∷ more) params) (trees tree) found first (answer_is tree tests (col 1 row_number ∷ more) [] trees params found (answers.answer Null))
