-- For the proof of the code alone: what a walk over the rows of a query gathers (all this project's
-- own).
use Rattle.std.specs.Prelude.{◌≡◌, ℕ, List, [], ◌∷◌, ◌++◌, IsPermutation, Result, Err, OnOk}
use Rattle.sqlite_value.specs.Order.{Row}
use Rattle.sqlite_sql.specs.Query.{Query}
use Rattle.sqlite_trees.specs.declared.store.Store.{Ghosts}
use Rattle.sqlite.specs.Effect.{Database}
use Rattle.sqlite.specs.State.{State}
use Rattle.sqlite.specs.Held.{Held, state}
use Rattle.rows_tables.specs.declared.fault.TableFault.{TableFault}
use Rattle.rows_tables.specs.declared.fault.TableFault.TheVariants.{Damaged}
use Rattle.rows_tables.specs.Calls.{IsUnchanged, LeavesNoMore, UnchangedOrUndone, IfOurTables}
use Rattle.rows_tables.specs.Queries.{HasNoSums, Means, TakesParams, IsShownBy}

-- row by row, each step from what the one before left
abbrev pub GathersAll : {G : Type 0}
    → (step : G → Row → G → Type 0) (first : G) (rows : List Row) (last : G) → Type 0
GathersAll step first [] last = first ≡ last
GathersAll {G} step first (row ∷ rows) last =
    (next : G) × step first row next × GathersAll step next rows last

-- some rows are gathered, whichever they are
abbrev pub HasGathered : {G : Type 0} → (step : G → Row → G → Type 0) (first last : G) → Type 0
HasGathered step first last = (given : List Row) × GathersAll step first given last

module _ {G : Type 0} (step : G → Row → G → Type 0) (refuses : G → Row → Type 0) where
  -- each row of what may be shown is gathered, in its order
  abbrev pub GathersShown : (List Row → Type 0) → G → G → Type 0
  GathersShown IsShown first last =
      (given : List Row) × IsShown given × GathersAll step first given last

  -- after some of them comes one that is refused
  pub record RefusesShown (IsShown : List Row → Type 0) (first : G) : Type 0 where
    pub given : List Row
    pub row : Row
    pub more : List Row
    pub so_far : G
    pub are_shown : IsShown ((given ++ row ∷ []) ++ more)
    pub gathered : GathersAll step first given so_far
    pub refused : refuses so_far row

  pub record WalksShown (old new : State) (IsShown : List Row → Type 0) (first last : G)
      (result : Result (Unit {0}) TableFault) : Type 0 where
    pub all : OnOk result (GathersShown IsShown first last)
    pub damaged : result ≡ Err Damaged → RefusesShown IsShown first
    pub same : OnOk result (IsUnchanged old new)
    pub stays : UnchangedOrUndone old new
    pub crash : LeavesNoMore old new

  -- whatever query the text means, this is what the walk comes to
  abbrev pub Walks : (old new : State) (text : List ℕ) (params : Row) (first last : G)
      (result : Result (Unit {0}) TableFault) → Type 0
  Walks old new text params first last result =
      (query : Query) (names : List (List ℕ)) (parameters : ℕ) → HasNoSums query
      → Means old.now.schema text query names parameters
      → TakesParams old.now.schema query params parameters
      → WalksShown old new (IsShownBy query old.now.trees params) first last result

  -- over the store's tables, of which so much is shown
  abbrev pub WalksStore : {S : Type 0}
      → (store : Ghosts S) (old new : Held S) (IsShown : Database → List Row → Type 0)
      (first last : G) (result : Result (Unit {0}) TableFault) → Type 0
  WalksStore store old new IsShown first last result = IfOurTables store old new
      (λ db. WalksShown (state store old) (state store new) (IsShown db) first last result)

  -- ---- over rows that are shown in some order

  abbrev pub WalksAll : List Row → G → G → Type 0
  WalksAll shown first last = GathersShown (IsPermutation shown) first last

  abbrev pub RefusesOne : List Row → G → Type 0
  RefusesOne shown first = RefusesShown (IsPermutation shown) first

  abbrev pub WalksOver : (old new : State) (shown : List Row) (first last : G)
      (result : Result (Unit {0}) TableFault) → Type 0
  WalksOver old new shown first last result =
      WalksShown old new (IsPermutation shown) first last result
