-- What a read of one row says of the connection and of the table.
use Rattle.std.proofs.Common.{◌≡◌, ℕ, suc, Bool, true, false, List, [], ◌∷◌, map, filter, find, drop, length, Option, None, Some, option_map, Ok, Err, Result, refl, sym, ap, ◌∙◌, inl, inr, IsTrue, arith}
use Rattle.std.proofs.lemmas.Bool.{cases_Bool}
use Rattle.sqlite_value.specs.Order.{Row, column}
use Rattle.sqlite_sql.specs.Term.{Term}
use Rattle.sqlite_schema.specs.declared.command.Returning.{Returning}
use Rattle.sqlite_schema.specs.declared.schema.Table.{Table}
use Rattle.sqlite_resolve.specs.declared.compiled.Compiled.{Compiled}
use Rattle.sqlite_rules.specs.Lists.{Has}
use Rattle.sqlite_rules.proofs.ListLemmas.{has_kept}
use Rattle.sqlite.specs.declared.error.Error.{Error}
use Rattle.sqlite.specs.declared.error.Error.TheVariants.{QueryReturnedNoRows}
use Rattle.sqlite.specs.Effect.{Database}
use Rattle.sqlite.specs.State.{State, Shown, ShowsRows, QueriesRow, FailsToQuery, FailsToShow, IsNotRun}
use Rattle.rows_tables.specs.Tables.{room_schema}
use Rattle.rows_tables.specs.Keyed.{HasSchema, has_key, row_at}
use Rattle.rows_tables.specs.Queries.{passes, shows_of, shown_of, IsFirst, FindsRow}
use Rattle.rows_tables.specs.Calls.{Gets, IsUnchanged}
use Rattle.rows_tables.proofs.Savepoints.{undone_by}
use Rattle.rows_tables.proofs.Finds.{finds_none, finds_only, key_shared}
use Rattle.rows_tables.proofs.Queries.{no_cause, finds_shown}
use Rattle.rows_tables.proofs.Statements.{IsGuarded, numbered_in, fits_in, once_in}

-- ---- whatever the text means, a connection that shows something was open and is

abbrev pub BothOpen : State → State → Type 0
BothOpen old new = IsTrue old.is_open × IsTrue new.is_open

rows_open : (text : List ℕ) (old new : State) (c : Compiled) (params : Row) (rows : List Row) (returning : Option Returning) → ShowsRows old new text c params rows returning → BothOpen old new
rows_open text old new c params rows None h = (h.3.0.was_open, h.3.0.is_open)
rows_open text old new c params rows (Some what) h = (h.1.shown.was_open, h.1.shown.is_open)

pub shown_open : (text : List ℕ) (params : Row) (old new : State) (rows : List Row) → Shown text params old new rows → BothOpen old new
unfolding Shown
shown_open text params old new rows h = rows_open text old new h.0 _ rows h.0.returning h.2

pub some_open : (text : List ℕ) (params : Row) (old new : State) (row : Row) → QueriesRow text params old new (Ok row) → BothOpen old new
unfolding QueriesRow
some_open text params old new row (inl begun) = (begun.1.0.was_open, begun.1.0.is_open)
some_open text params old new row (inr all) = shown_open text params old new all.0 all.1

none_left : (old new : State) (c : Compiled) (text : List ℕ) (params : Row) (returning : Option Returning) → FailsToShow old new text c params QueryReturnedNoRows returning → BothOpen old new
none_left old new c text params None h = (h.3.0.was_open, h.3.0.is_open)
none_left old new c text params (Some what) (inl refused) = (refused.1.0.was_open, refused.1.0.is_open)
none_left old new c text params (Some what) (inr fails) = absurd (no_cause fails.0 fails.1)

pub none_open : (text : List ℕ) (params : Row) (old new : State) → QueriesRow text params old new (Err QueryReturnedNoRows) → BothOpen old new
unfolding QueriesRow FailsToQuery IsNotRun
none_open text params old new (inl (inl (inl refused))) = (refused.1.0.was_open, refused.1.0.is_open)
none_open text params old new (inl (inl (inr fails))) = absurd (no_cause fails.0 fails.1)
none_open text params old new (inl (inr h)) = none_left old new h.0 text _ h.0.returning h.2
none_open text params old new (inr h) = shown_open text params old new [] h.1

failed_back : (text : List ℕ) (old new : State) (c : Compiled) (params : Row) (error : Error) (returning : Option Returning) → FailsToShow old new text c params error returning → IsTrue new.is_open → IsTrue old.is_open
failed_back text old new c params error None h is_open = h.3.0.was_open
failed_back text old new c params error (Some what) (inl refused) is_open = refused.1.0.was_open
failed_back text old new c params error (Some what) (inr fails) is_open = fails.3.was_open is_open

pub open_back : (text : List ℕ) (params : Row) (old new : State) (error : Error) → QueriesRow text params old new (Err error) → IsTrue new.is_open → IsTrue old.is_open
unfolding QueriesRow FailsToQuery IsNotRun
open_back text params old new error (inl (inl (inl refused))) is_open = refused.1.0.was_open
open_back text params old new error (inl (inl (inr fails))) is_open = fails.3.was_open is_open
open_back text params old new error (inl (inr h)) is_open = failed_back text old new h.0 _ error h.0.returning h.2 is_open
open_back text params old new error (inr h) is_open = (shown_open text params old new [] h.1).0

-- ---- the row of a key is what is found

pub empty_filter : (p : Row → Bool) (f : Row → Row) (rows : List Row) → map f (filter p rows) ≡ [] → (x : Row) → Has rows x → p x ≡ false
empty_filter p f rows none x h = elim (cases_Bool (p x)) [
  | inl is ↦ absurd (nothing (filter p rows) none (has_kept p rows x h is))
  | inr isnt ↦ isnt
]
  where
    nothing : (xs : List Row) → map f xs ≡ [] → Has xs x → ⊥
    nothing [] e there = there
    nothing (y ∷ ys) e there = let more = ap length e in omega (arith, more)

-- where one row at most passes, what is found is what is shown of it
found_is : (tests shows : List Term) (params : Row) (rows : List Row) → ((a b : Row) → Has rows a → Has rows b → passes tests params a ≡ true → passes tests params b ≡ true → a ≡ b)
    → (o : Option Row) → IsFirst (map (shows_of shows params) (filter (passes tests params) rows)) o → o ≡ option_map (shows_of shows params) (find (passes tests params) rows)
found_is tests shows params rows one None h = sym (ap (option_map (shows_of shows params)) (finds_none (passes tests params) rows (empty_filter (passes tests params) (shows_of shows params) rows h)))
found_is tests shows params rows one (Some row) h =
    let r = finds_shown (passes tests params) (shows_of shows params) rows (row ∷ h.0) h.1 row (inl refl) in
    ap Some r.3 ∙ sym (ap (option_map (shows_of shows params)) (finds_only (passes tests params) rows r.0 r.1 r.2 (λ y k e. one y r.0 k r.1 e r.2)))

option_map_twice : {X Y Z : Type 0} (f : X → Y) (g : Y → Z) (o : Option X) → option_map (λ x. g (f x)) o ≡ option_map g (option_map f o)
option_map_twice f g None = refl
option_map_twice f g (Some x) = refl

option_map_alike : {X Y : Type 0} (f g : X → Y) → ((x : X) → f x ≡ g x) → (o : Option X) → option_map f o ≡ option_map g o
option_map_alike f g alike None = refl
option_map_alike f g alike (Some x) = ap Some (alike x)

pub without_number : (r : Row) (n : ℕ) → column (drop 1 r) n ≡ column r (suc n)
without_number [] n = refl
without_number (v ∷ r) n = refl

module _ (table : Table) (listed : Has room_schema.tables table) (guarded : IsGuarded table) (key : Row) (tests shows : List Term) (params : Row) (shown : Row → Row)
    -- the tests ask for the key, and what is shown is of the cells
    (asks : (r : Row) → passes tests params r ≡ has_key table key r) (shows_cells : (r : Row) → shows_of shows params r ≡ shown (drop 1 r)) where
  only_one : (db : Database) → HasSchema db → (a b : Row) → Has (db.trees table.tree) a → Has (db.trees table.tree) b → passes tests params a ≡ true → passes tests params b ≡ true → a ≡ b
  only_one db has a b h k p q =
      once_in table listed guarded db.trees (fits_in db has) (numbered_in table listed db has) a b h k (key_shared table key [] [] a b (sym (asks a) ∙ p) (sym (asks b) ∙ q))

  same_find : (rows : List Row) → find (passes tests params) rows ≡ find (has_key table key) rows
  same_find [] = refl
  same_find (r ∷ rows) = rw (asks r, same_find rows) refl

  row_found : (db : Database) → HasSchema db → (o : Option Row) → IsFirst (shown_of table.tree tests shows params db.trees) o → o ≡ option_map shown (row_at table key db)
  row_found db has o h =
      found_is tests shows params (db.trees table.tree) (only_one db has) o h
      ∙ ap (option_map (shows_of shows params)) (same_find (db.trees table.tree))
      ∙ option_map_alike (shows_of shows params) (λ r. shown (drop 1 r)) shows_cells (find (has_key table key) (db.trees table.tree))
      ∙ option_map_twice (drop 1) shown (find (has_key table key) (db.trees table.tree))

  pub gets : (old new : State) → HasSchema old.now → (result : Result (Option Row) Error) → FindsRow old new table.tree tests shows params result → Gets old new (row_at table key old.now) shown result
  gets old new has (Ok o) h =
      let same : IsUnchanged old new = record { now = h.same.0.now_is; committed = h.same.0.committed_is; mode = h.same.0.mode } in
      record { found = row_found old.now has o h.found; same = same; stays = inl same; crash = h.crash }
  gets old new has (Err error) h = record {
    found = tt;
    same = tt;
    stays = elim h.failed [
      | inl fails ↦ inr (undone_by old new fails.3)
      | inr stopped ↦ inl (record { now = stopped.2.0.now_is; committed = stopped.2.0.committed_is; mode = stopped.2.0.mode })
    ];
    crash = h.crash;
  }
