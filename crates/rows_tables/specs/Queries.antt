-- Which rows a query of one table shows, said without its text of SQL.
use Rattle.std.specs.Prelude.{◌≡◌, ◌⊎◌, ℕ, ◌-◌, Bool, nat_le, length, false, true, negsuc, pos, List, [], ◌∷◌, map, filter, Option, None, Some, IsSome, Result, Ok, Err, IsPermutation, IfOk, OnOk, IfErr}
use Rattle.std.specs.List.{list_all}
use Rattle.sqlite_value.specs.declared.value.Value.TheVariants.{Int}
use Rattle.sqlite_value.specs.declared.keys.Key.{Key}
use Rattle.sqlite_value.specs.declared.keys.Collation.TheVariants.{Binary}
use Rattle.sqlite_value.specs.Order.{Row}
use Rattle.sqlite_trees.specs.Tree.{Trees}
use Rattle.sqlite_sql.specs.declared.ops.BinaryOp.TheVariants.{Compare}
use Rattle.sqlite_sql.specs.declared.ops.CompareOp.TheVariants.{Eq}
use Rattle.sqlite_sql.specs.Term.{Term, lit, col, op2, eval_all, holds}
use Rattle.sqlite_sql.specs.Query.{Query, IsAnswer, has_no_fold, inner, end}
use Rattle.sqlite_sql.specs.Program.{overlay}
use Rattle.sqlite_schema.specs.declared.schema.Schema.{Schema}
use Rattle.sqlite_schema.specs.declared.command.Command.{Command}
use Rattle.sqlite_schema.specs.declared.command.Command.TheVariants.{Select, Nothing}
use Rattle.sqlite_typing.specs.Types.{accepts_program}
use Rattle.sqlite_resolve.specs.declared.compiled.Compiled.{Compiled}
use Rattle.sqlite_resolve.specs.declared.error.CompileError.{CompileError}
use Rattle.sqlite.specs.Listing.{understood, reads_listing}
use Rattle.sqlite.specs.Given.{IsPlain}
use Rattle.sqlite.specs.State.{State, Fails, IsUnchanged}
use Rattle.rows_tables.specs.Calls.{LeavesNoMore}
use Rattle.sqlite.specs.declared.error.Error.{Error}
use Rattle.sqlite.specs.declared.error.Error.TheVariants.{SqliteFailure}
use Rattle.sqlite.specs.declared.error.ErrorCode.TheVariants.{OperationInterrupted}

-- the terms that are shown of each row of a table that passes the tests, in an order, the first so
-- many
abbrev pub first_of_table : (tree : ℕ) (tests shows : List Term) (order : List (Term × Key))
    (limit : Term) → Query
first_of_table tree tests shows order limit = record {
  from = inner tree end;
  filter = tests;
  group = None;
  project = shows;
  distinct = false;
  collations = [];
  order = order;
  limit = limit;
  offset = lit (Int (pos 0));
}

-- all of them
abbrev pub of_table : (tree : ℕ) (tests shows : List Term) (order : List (Term × Key)) → Query
of_table tree tests shows order = first_of_table tree tests shows order (lit (Int (negsuc 0)))

-- A column, by its place, is the parameter of this number, counted from 1. `col 1` is a column of
-- the row, and `col 0` a parameter, counted from 0.
abbrev pub is_given : (place parameter : ℕ) → Term
is_given place parameter = op2 (Compare Eq Binary) (col 1 place) (col 0 (parameter - 1))

abbrev pub query_in : Result Compiled CompileError → Command
query_in (Ok compiled) = compiled.command
query_in (Err fault) = Nothing

abbrev pub tail_of : Result Compiled CompileError → ℕ
tail_of (Ok compiled) = compiled.tail
tail_of (Err fault) = 0

abbrev pub parameters_of : Result Compiled CompileError → ℕ
parameters_of (Ok compiled) = length compiled.names
parameters_of (Err fault) = 0

-- Under the schema the text is this query and nothing more: it writes nothing, reads no list of the
-- schema and no time, and takes so many parameters.
pub record Means (schema : Schema) (text : List ℕ) (query : Query) (names : List (List ℕ))
    (parameters : ℕ) : Type 0 where
  pub is : query_in (understood schema text) ≡ Select (record { lets = []; body = query }) names
  pub lists_nothing : reads_listing schema text ≡ false
  pub is_plain : IsPlain (understood schema text)
  pub takes : parameters_of (understood schema text) ≡ parameters
  pub is_whole : nat_le (length text) (tail_of (understood schema text)) ≡ true

-- the parameters are as many, and of types that the query takes
pub record TakesParams (schema : Schema) (query : Query) (params : Row) (parameters : ℕ)
    : Type 0 where
  pub given : length params ≡ parameters
  pub typed : accepts_program schema [] query params ≡ true

-- it adds nothing up, so that no sum can overflow
pub record HasNoSums (query : Query) : Type 0 where
  pub ungrouped : query.group ≡ None
  pub unfolded : has_no_fold query.from ≡ true

-- the rows are an answer of the query over these tables
abbrev pub IsShownBy : (query : Query) (trees : Trees) (params : Row) (rows : List Row) → Type 0
IsShownBy query trees params rows = IsAnswer query (overlay trees []) params rows

abbrev pub passes : (tests : List Term) (params row : Row) → Bool
passes tests params row = list_all (holds (params ∷ row ∷ [])) tests

abbrev pub shows_of : (shows : List Term) (params row : Row) → Row
shows_of shows params row = eval_all shows (params ∷ row ∷ [])

abbrev pub shown_of : (tree : ℕ) (tests shows : List Term) (params : Row) (trees : Trees) → List Row
shown_of tree tests shows params trees =
    map (shows_of shows params) (filter (passes tests params) (trees tree))

-- the first row in some order, or that there is none
abbrev pub IsFirst : List Row → Option Row → Type 0
IsFirst rows None = rows ≡ []
IsFirst rows (Some row) = (others : List Row) × IsPermutation rows (row ∷ others)

-- Want of memory, the disk or an earlier failure ended the read, and with it a transaction. Or a
-- limit on steps did, and nothing has changed.
abbrev pub FailsToRead : (old new : State) (error : Error) → Type 0
FailsToRead old new error = Fails old new ⊥ error
    ⊎ ((error ≡ SqliteFailure OperationInterrupted) × IsSome old.step_limit × IsUnchanged old new)

pub record FindsRow (old new : State) (tree : ℕ) (tests shows : List Term) (params : Row)
    (result : Result (Option Row) Error) : Type 0 where
  pub found : IfOk result (IsFirst (shown_of tree tests shows params old.now.trees))
  pub same : OnOk result (IsUnchanged old new)
  pub failed : IfErr result (FailsToRead old new)
  pub crash : LeavesNoMore old new

-- whatever the text means as a query on one table, this is what it finds
abbrev pub Finds : (old new : State) (text : List ℕ) (params : Row)
    (result : Result (Option Row) Error) → Type 0
Finds old new text params result =
    (tree : ℕ) (tests shows : List Term) (names : List (List ℕ)) (parameters : ℕ)
    → Means old.now.schema text (of_table tree tests shows []) names parameters
    → TakesParams old.now.schema (of_table tree tests shows []) params parameters
    → FindsRow old new tree tests shows params result
