-- A walk over the rows of a query.
use Rattle.std.proofs.Common.{◌≡◌, ℕ, List, [], ◌∷◌, ◌++◌, Result, Ok, Err, IsPermutation, refl, sym, ap, subst, ◌∙◌, ◌⊎◌, inl, inr, IsTrue}
use Rattle.sqlite_value.specs.declared.value.Value.TheVariants.{Null}
use Rattle.sqlite_value.specs.Order.{Row}
use Rattle.sqlite_trees.specs.declared.store.Store as store
use Rattle.sqlite_sql.specs.Term.{Term}
use Rattle.sqlite_sql.specs.Query.{Query}
use Rattle.sqlite.specs.declared.error.Error.{Error}
use Rattle.sqlite.specs.declared.error.Error.TheVariants as errors
use Rattle.sqlite.specs.declared.error.Error.TheVariants.{SqliteFailure}
use Rattle.sqlite.specs.declared.error.ErrorCode.{ErrorCode}
use Rattle.sqlite.specs.declared.error.ErrorCode.TheVariants as codes_of
use Rattle.rows_tables.specs.Faults.{statement_fault}
use Rattle.rows_tables.specs.declared.fault.TableFault.{TableFault}
use Rattle.rows_tables.specs.declared.fault.TableFault.TheVariants.{Damaged}
use Rattle.rows_tables.proofs.KeyedRows.{same_fault}
use Rattle.sqlite_rules.specs.Lists.{Has}
use Rattle.sqlite.specs.Effect.{Database}
use Rattle.sqlite.specs.Given.{HasBegun}
use Rattle.sqlite.specs.Held.{Held, state}
use Rattle.sqlite.specs.State.{State, HasCleanDisk, Survives, CommitsShowing, Shown, Begins, Fails, IsUnchanged, FailsToQuery, QueriesRow}
use Rattle.sqlite.proofs.Callers.{begins_as}
use Rattle.rows_tables.specs.Queries.{HasNoSums, Means, TakesParams, of_table, shown_of, IsShownBy}
use Rattle.rows_tables.specs.Calls.{IsUnchanged as HasSameTables, LeavesNoMore, UnchangedOrUndone}
use Rattle.rows_statements.specs.Walks.{GathersAll, GathersShown, RefusesShown, WalksShown, WalksOver}
use Rattle.rows_tables.proofs.Queries.{answer_is, answered, fails, leaves_no_more}
use Rattle.rows_tables.proofs.Savepoints.{undone_by}
use Rattle.rows_tables.proofs.Reading.{BothOpen, shown_open, open_back}

-- ---- steps

pub gathers_more : {G : Type 0} (step : G → Row → G → Type 0) (first mid last : G) (rows : List Row) (row : Row) → GathersAll step first rows mid → step mid row last → GathersAll step first (rows ++ row ∷ []) last
gathers_more step first mid last [] row so_far more = (last, subst (λ g. step g row last) (sym so_far) more, refl)
gathers_more step first mid last (r ∷ rows) row so_far more = (so_far.0, so_far.1, gathers_more step so_far.0 mid last rows row so_far.2 more)

-- ---- the connection

pub begun_open : {S : Type 0} (g : store.Ghosts S) (text : List ℕ) (params : Row) (old new : Held S) → HasBegun g text params old new → BothOpen (state g old) (state g new)
begun_open g text params old new (inl h) = (h.1.0.was_open, h.1.0.is_open)
begun_open g text params old new (inr h) = shown_open text params _ _ _ h.1

pub went_on : (old was now : State) → BothOpen old was → IsUnchanged was now → BothOpen old now
went_on old was now open_before same = (open_before.0, same.0.is_open)

pub unchanged_same : (old new : State) → IsUnchanged old new → HasSameTables old new
unchanged_same old new same = record { now = same.0.now_is; committed = same.0.committed_is; mode = same.0.mode }

pub unchanged_stays : (old new : State) → IsUnchanged old new → UnchangedOrUndone old new
unchanged_stays old new same = inl (unchanged_same old new same)

-- a failure at a row leaves what was committed before the walk
pub failed_stays : (old was now : State) (error : Error) → IsUnchanged old was → Fails was now ⊥ error ⊎ IsUnchanged was now → UnchangedOrUndone old now
failed_stays old was now error same (inl failed) = inr (record {
  was_open = λ _. same.0.was_open;
  now = λ is_open. (failed.3.undone is_open).0 ∙ same.0.committed_is;
  committed = λ is_open. (failed.3.undone is_open).1 ∙ same.0.committed_is;
  mode = failed.3.autocommit;
  unmarked = failed.3.unmarked;
})
failed_stays old was now error same (inr stopped) = inl (record { now = stopped.0.now_is ∙ same.0.now_is; committed = stopped.0.committed_is ∙ same.0.committed_is; mode = stopped.0.mode ∙ same.0.mode })

pub failed_back : (was now : State) (error : Error) → Fails was now ⊥ error ⊎ IsUnchanged was now → IsTrue now.is_open → IsTrue was.is_open
failed_back was now error (inl failed) is_open = failed.3.was_open is_open
failed_back was now error (inr stopped) is_open = stopped.0.was_open

pub query_back : (text : List ℕ) (params : Row) (old new : State) (error : Error) → FailsToQuery text params old new error → IsTrue new.is_open → IsTrue old.is_open
unfolding QueriesRow
query_back text params old new error h is_open = open_back text params old new error (inl h) is_open

-- ---- what the query shows

module _ (old : State) (text : List ℕ) (query : Query) (names : List (List ℕ)) (parameters : ℕ) (means : Means old.now.schema text query names parameters) (params : Row) where
  pub query_stays : (new : State) → HasNoSums query → TakesParams old.now.schema query params parameters → (error : Error) → FailsToQuery text params old new error → UnchangedOrUndone old new
  query_stays new no_sums takes error h = elim (fails old new old.now.schema refl text query names parameters means params no_sums takes error h) [
    | inl failed ↦ inr (undone_by old new failed.3)
    | inr stopped ↦ unchanged_stays old new stopped.2
  ]

  same_schema : (was : State) → IsUnchanged old was → was.now.schema ≡ old.now.schema
  same_schema was same = ap (λ (db : Database). db.schema) same.0.now_is

  pub all_given : (was now : State) → IsUnchanged old was → (given : List Row) → Shown text params was now given → IsShownBy query old.now.trees params given
  all_given was now same given h =
      subst (λ (db : Database). IsShownBy query db.trees params given) same.0.now_is (answered was now old.now.schema (same_schema was same) text query names parameters means params given h)

  pub some_given : (now : State) → IsUnchanged old now → (given : List Row) → Begins text params now given → (more : List Row) × IsShownBy query old.now.trees params (given ++ more)
  some_given now same given h =
      let start = (begins_as text params now now old.now.schema (same_schema now same) _ means.is means.is_plain means.lists_nothing given h).1 in
      (start.0, subst (λ (db : Database). IsShownBy query db.trees params (given ++ start.0)) same.0.now_is (start.1 Null))

  -- a crash finds nothing of it
  pub crash_after : (new : State) → Survives old new (CommitsShowing text params old) → HasCleanDisk new → LeavesNoMore old new
  crash_after new = leaves_no_more old new old.now.schema refl text query names parameters means params

-- ---- what a failure counts as

never_for : (code : ErrorCode) → statement_fault (SqliteFailure code) ≡ Damaged → ⊥
never_for (codes_of.ConstraintViolation a) h = let e = h in cc
never_for codes_of.TypeMismatch h = let e = h in cc
never_for codes_of.IntegerOverflow h = let e = h in cc
never_for codes_of.NoRowid h = let e = h in cc
never_for codes_of.ForeignKeyMismatch h = let e = h in cc
never_for codes_of.TooDeep h = let e = h in cc
never_for codes_of.NoClock h = let e = h in cc
never_for codes_of.NameTaken h = let e = h in cc
never_for codes_of.BadName h = let e = h in cc
never_for codes_of.BadKey h = let e = h in cc
never_for codes_of.BadText h = let e = h in cc
never_for codes_of.SchemaTooBig h = let e = h in cc
never_for codes_of.TransactionState h = let e = h in cc
never_for codes_of.NoSuchSavepoint h = let e = h in cc
never_for codes_of.OperationInterrupted h = let e = h in cc
never_for codes_of.NotADatabase h = let e = h in cc
never_for codes_of.DatabaseCorrupt h = let e = h in cc
never_for codes_of.CannotOpen h = let e = h in cc
never_for codes_of.DatabaseBusy h = let e = h in cc
never_for codes_of.TooBig h = let e = h in cc
never_for codes_of.OutOfMemory h = let e = h in cc
never_for codes_of.SystemIoFailure h = let e = h in cc
never_for codes_of.DiskFull h = let e = h in cc
never_for codes_of.Closed h = let e = h in cc

pub never_damaged : (error : Error) → statement_fault error ≡ Damaged → ⊥
never_damaged (SqliteFailure code) h = never_for code h
never_damaged (errors.SqlInputError a) h = let e = h in cc
never_damaged (errors.InvalidParameterCount a b) h = let e = h in cc
never_damaged errors.ExecuteReturnedResults h = let e = h in cc
never_damaged errors.InvalidQuery h = let e = h in cc
never_damaged errors.MultipleStatement h = let e = h in cc
never_damaged errors.QueryReturnedNoRows h = let e = h in cc
never_damaged (errors.InvalidColumnIndex a) h = let e = h in cc
never_damaged (errors.InvalidColumnType a b) h = let e = h in cc
never_damaged (errors.IntegralValueOutOfRange a) h = let e = h in cc
never_damaged (errors.Utf8Error a) h = let e = h in cc

module _ {G : Type 0} (step : G → Row → G → Type 0) (refuses : G → Row → Type 0) (old new : State) (crash : LeavesNoMore old new) (IsShown : List Row → Type 0) (first last : G) where
  pub walk_failed : (fault : TableFault) (result : Result (Unit {0}) TableFault) → result ≡ Err fault → (fault ≡ Damaged → RefusesShown step refuses IsShown first) → UnchangedOrUndone old new
      → WalksShown step refuses old new IsShown first last result
  walk_failed fault result is damaged stays =
      subst (WalksShown step refuses old new IsShown first last) (sym is) (record { all = tt; damaged = λ e. damaged (same_fault e); same = tt; stays = stays; crash = crash })

  pub statement_failed : (error : Error) (fault : TableFault) (result : Result (Unit {0}) TableFault) → result ≡ Err fault → fault ≡ statement_fault error → UnchangedOrUndone old new
      → WalksShown step refuses old new IsShown first last result
  statement_failed error fault result is told stays = walk_failed fault result is (λ damaged. absurd (never_damaged error (sym told ∙ damaged))) stays

  pub walk_done : (result : Result (Unit {0}) TableFault) → result ≡ Ok tt → GathersShown step refuses IsShown first last → IsUnchanged old new → WalksShown step refuses old new IsShown first last result
  walk_done result is all same =
      subst (WalksShown step refuses old new IsShown first last) (sym is) (record { all = all; damaged = λ e. absurd (let no = e in cc); same = unchanged_same old new same; stays = unchanged_stays old new same; crash = crash })

-- what is shown is told in other words
module _ {G : Type 0} (step : G → Row → G → Type 0) (refuses : G → Row → Type 0) (old new : State) (IsShown : List Row → Type 0) (first last : G) where
  pub told_as : (IsTold : List Row → Type 0) → ((rows : List Row) → IsShown rows → IsTold rows) → (result : Result (Unit {0}) TableFault) → WalksShown step refuses old new IsShown first last result
      → WalksShown step refuses old new IsTold first last result
  told_as IsTold tells (Ok done) it = record { all = (it.all.0, tells it.all.0 it.all.1, it.all.2); damaged = λ e. absurd (let no = e in cc); same = it.same; stays = it.stays; crash = it.crash }
  told_as IsTold tells (Err fault) it = record {
    all = tt;
    damaged = λ e.
        let one = it.damaged e in
        record { given = one.given; row = one.row; more = one.more; so_far = one.so_far; are_shown = tells ((one.given ++ one.row ∷ []) ++ one.more) one.are_shown; gathered = one.gathered; refused = one.refused };
    same = tt;
    stays = it.stays;
    crash = it.crash;
  }

-- the row that was refused is one of those that are shown
pub refused_there : (given : List Row) (row : Row) (more : List Row) → Has ((given ++ row ∷ []) ++ more) row
refused_there [] row more = inl refl
refused_there (other ∷ given) row more = inr (refused_there given row more)

-- a walk over one table, without an order, is one over the rows that pass in some order
pub in_some_order : {G : Type 0} (step : G → Row → G → Type 0) (refuses : G → Row → Type 0) (old new : State) (first last : G) (tree : ℕ) (tests shows : List Term) (params : Row) (result : Result (Unit {0}) TableFault)
    → WalksShown step refuses old new (IsShownBy (of_table tree tests shows []) old.now.trees params) first last result
    → WalksOver step refuses old new (shown_of tree tests shows params old.now.trees) first last result
in_some_order step refuses old new first last tree tests shows params result it =
    told_as step refuses old new (IsShownBy (of_table tree tests shows []) old.now.trees params) first last (IsPermutation (shown_of tree tests shows params old.now.trees))
    (λ rows answer. answer_is tree tests shows [] old.now.trees params rows answer) result it
