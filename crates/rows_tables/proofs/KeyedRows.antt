-- The row of a key: it begins with the values of the key.
use Rattle.std.proofs.Common.{◌≡◌, Result, Err, ℕ, ◌+◌, ℤ, true, false, List, [], ◌∷◌, ◌++◌, append-nil, length, drop, find, slice_get, Option, Some, None, option_map, refl, sym, ap, subst, ◌∙◌, suc, arith}
use Rattle.std.specs.List.{AllByRecursion}
use Rattle.std.proofs.lemmas.Bool.{and_parts, and_from}
use Rattle.sqlite_value.specs.declared.value.Value.{Value}
use Rattle.sqlite_value.specs.declared.value.Value.TheVariants.{Null, Int, Text}
use Rattle.sqlite_value.specs.declared.keys.Collation.TheVariants.{Binary}
use Rattle.sqlite_value.specs.Order.{Row, column}
use Rattle.sqlite_value.specs.Keys.{plain, first_key}
use Rattle.sqlite_sql.specs.Ops.{binary, is_null}
use Rattle.sqlite_schema.specs.declared.schema.Constraint.TheVariants.{NotNull}
use Rattle.sqlite_schema.specs.declared.schema.Column.{Column}
use Rattle.sqlite_schema.specs.declared.schema.Kind.TheVariants as kind
use Rattle.sqlite_schema.specs.declared.schema.Table.{Table}
use Rattle.sqlite_schema.specs.Rules.{agree, are_typed, are_present, equal}
use Rattle.sqlite_rules.specs.Lists.{Has}
use Rattle.sqlite_rules.proofs.ListLemmas.{has_found}
use Rattle.sqlite_rules.proofs.RuleLemmas.{keeps_at}
use Rattle.sqlite.specs.Effect.{Database}
use Rattle.rows_tables.specs.Tables.{room_schema, column_of, keyed}
use Rattle.rows_tables.specs.Keyed.{HasSchema, has_key, row_at}
use Rattle.rows_tables.proofs.Columns.{cells_from, cells_are, cells_behind, past_end, next_is, equal_itself, text_there, integer_there, value_there, AreExact, EachIs, each_is, each_both, each_shown, each_behind}
use Rattle.rows_tables.proofs.KeyedTables.{places_from, IsInSchema}
use Rattle.rows_tables.proofs.Statements.{typed_in, fits_in}

-- ---- a row that agrees with a key has its values, and the other way round

null_unequal : (v : Value) → equal Binary Null v ≡ true → ⊥
unfolding binary
null_unequal v same = let e = same in cc

begins : (columns : List Column) (at : ℕ) (r vs other key rest : Row) → AreExact columns key → drop (at + 1) r ≡ vs → drop (at + 1) other ≡ key ++ rest → are_typed None at columns vs ≡ true
    → agree plain (places_from (length key) (at + 1)) r (places_from (length key) (at + 1)) other ≡ true → EachIs (at + 1) key r
unfolding first_key
begins columns at r vs other [] rest exact is of typed same = tt
begins [] at r vs other (k ∷ key) rest exact is of typed same = absurd exact
begins (c ∷ columns) at r [] other (k ∷ key) rest exact is of typed same =
    let first : equal Binary (column r (at + 1)) (column other (at + 1)) ≡ true = (and_parts _ _ same).0 in
    absurd (null_unequal k (rw (past_end (at + 1) r is, (next_is (at + 1) other k (key ++ rest) of).0) at first))
begins (c ∷ columns) at r (v ∷ vs) other (k ∷ key) rest exact is of typed same =
    let next = next_is (at + 1) r v vs is in
    let there = next_is (at + 1) other k (key ++ rest) of in
    let more : suc (at + 1) ≡ at + 1 + 1 = omega arith in
    let first : equal Binary (column r (at + 1)) (column other (at + 1)) ≡ true = (and_parts _ _ same).0 in (
      next.0 ∙ exact.0 v (and_parts _ _ typed).0 (rw (next.0, there.0) at first),
      begins columns (at + 1) r vs other key rest exact.1 (subst (λ n. drop n r ≡ vs) more next.1) (subst (λ n. drop n other ≡ key ++ rest) more there.1) (and_parts _ _ typed).1 (and_parts _ _ same).1,
    )

pub key_begins : (columns : List Column) (key rest r : Row) → AreExact columns key → are_typed None 0 columns (drop 1 r) ≡ true
    → agree plain (places_from (length key) 1) r (places_from (length key) 1) (Null ∷ key ++ rest) ≡ true → EachIs 1 key r
key_begins columns key rest r exact typed same = begins columns 0 r (drop 1 r) (Null ∷ key ++ rest) key rest exact refl refl typed same

agrees : (place : ℕ) (key r other : Row) → AllByRecursion (λ v. is_null v ≡ false) key → drop place other ≡ key → EachIs place key r → agree plain (places_from (length key) place) r (places_from (length key) place) other ≡ true
unfolding first_key
agrees place [] r other present of are = refl
agrees place (k ∷ key) r other present of are =
    let next = next_is place other k key of in
    let more : suc place ≡ place + 1 = omega arith in
    let first : equal Binary (column r place) (column other place) ≡ true = rw (are.0, next.0) (equal_itself k present.0) in
    and_from _ _ first (agrees (place + 1) key r other present.1 (subst (λ n. drop n other ≡ key) more next.1) are.1)

pub has_values : (key r : Row) → AllByRecursion (λ v. is_null v ≡ false) key → EachIs 1 key r → agree plain (places_from (length key) 1) r (places_from (length key) 1) (Null ∷ key) ≡ true
has_values key r present are = agrees 1 key r (Null ∷ key) present refl are

-- ---- the row that is there

pub same_row : {a b : Row} → ◌≡◌ {A = Option Row} (Some a) (Some b) → a ≡ b
same_row e = cc

-- what is shown of a row is shown of some
pub shown_some : (shown : Row → Row) (row : Row) (o : Option Row) → Some row ≡ option_map shown o → (cells : Row) × (o ≡ Some cells) × (row ≡ shown cells)
shown_some shown row None e = absurd (let no = e in cc)
shown_some shown row (Some cells) e = (cells, refl, same_row e)

-- and of the value that it stands for
pub shown_of : {X : Type 0} (shown : Row → Row) (cells : X → Row) (row : Row) (o : Option X) → Some row ≡ option_map shown (option_map cells o) → (x : X) × (o ≡ Some x) × (row ≡ shown (cells x))
shown_of shown cells row None e = absurd (let no = e in cc)
shown_of shown cells row (Some x) e = (x, refl, same_row e)

module _ {at : ℕ} {name : List ℕ} {tree width : ℕ} {columns : List Column} (in_schema : IsInSchema at name tree width columns) (db : Database) (has : HasSchema db) where
  abbrev table : Table
  table = keyed name tree (places_from width 1) columns

  -- each value is of the kind of its column, and none is NULL
  pub record AllOrNothing (row : Row) : Type 0 where
    pub typed : are_typed None 0 columns (drop 1 row) ≡ true
    pub present : are_present None 0 columns row ≡ true
    pub whole : drop 1 row ≡ cells_from (length columns) 1 row

  pub whole_in : (row : Row) → Has (db.trees tree) row → AllOrNothing row
  whole_in row there =
      let typed = typed_in table in_schema.listed db has row there in
      let present = keeps_at NotNull room_schema db.trees table row ((fits_in db has).rules NotNull (λ e. absurd cc)) in_schema.listed there in
      record { typed = typed; present = present; whole = cells_are columns 0 row (drop 1 row) in_schema.required refl typed present }

  -- its column at a place is a text, or an integer
  pub text_at : (row : Row) → Has (db.trees tree) row → (n : ℕ) (label : List ℕ) → slice_get columns n ≡ Some (column_of kind.Text label) → (t : List ℕ) × (column row (1 + n) ≡ Text t)
  text_at row there n label is =
      let it = whole_in row there in
      let value = value_there columns 0 n (column_of kind.Text label) row is refl (subst (λ vs. are_typed None 0 columns vs ≡ true) it.whole it.typed) it.present in
      text_there (column row (1 + n)) value.0 value.1

  pub integer_at : (row : Row) → Has (db.trees tree) row → (n : ℕ) (label : List ℕ) → slice_get columns n ≡ Some (column_of kind.Integer label) → (m : ℤ) × (column row (1 + n) ≡ Int m)
  integer_at row there n label is =
      let it = whole_in row there in
      let value = value_there columns 0 n (column_of kind.Integer label) row is refl (subst (λ vs. are_typed None 0 columns vs ≡ true) it.whole it.typed) it.present in
      integer_there (column row (1 + n)) value.0 value.1

  pub record IsRowOf (key cells : Row) : Type 0 where
    pub row : Row
    pub there : Has (db.trees tree) row
    pub has_the_key : has_key table key row ≡ true
    pub are_cells : drop 1 row ≡ cells

  pub row_of : (key cells : Row) → row_at table key db ≡ Some cells → IsRowOf key cells
  row_of key cells is = by_found (find (has_key table key) (db.trees tree)) refl is
    where
      by_found : (o : Option Row) → find (has_key table key) (db.trees tree) ≡ o → option_map (drop 1) o ≡ Some cells → IsRowOf key cells
      by_found None found is = absurd (let e = is in cc)
      by_found (Some r) found is = let it = has_found (has_key table key) (db.trees tree) r found in record { row = r; there = it.0; has_the_key = it.1; are_cells = same_row is }

-- ---- what is shown after the key, and the key, are the row

module _ {at : ℕ} {name : List ℕ} {tree : ℕ} {columns : List Column} (key : Row) (in_schema : IsInSchema at name tree (length key) columns) (exact : AreExact columns key) (db : Database) (has : HasSchema db) where
  abbrev keyed_table : Table
  keyed_table = keyed name tree (places_from (length key) 1) columns

  pub row_found : (rest : Row) → length columns ≡ length (key ++ rest) → (row : Row) → Some row ≡ option_map (cells_from (length rest) (length key)) (row_at keyed_table key db)
      → EachIs 0 rest row → row_at keyed_table key db ≡ Some (key ++ rest)
  row_found rest long row shown are =
      let there = shown_some (cells_from (length rest) (length key)) row (row_at keyed_table key db) shown in
      let cells = there.0 in
      let it = row_of in_schema db has key cells there.1 in
      let is = whole_in in_schema db has it.row it.there in
      let whole : cells ≡ cells_from (length columns) 0 cells = sym it.are_cells ∙ is.whole ∙ cells_behind (length columns) 0 it.row ∙ ap (cells_from (length columns) 0) it.are_cells in
      let same = subst (λ other. agree plain (places_from (length key) 1) it.row (places_from (length key) 1) (Null ∷ other) ≡ true) (sym (append-nil key)) it.has_the_key in
      let first : EachIs 0 key cells = subst (EachIs 0 key) it.are_cells (each_behind key 0 it.row (key_begins columns key [] it.row exact is.typed same)) in
      let behind : EachIs (0 + length key) rest cells = subst (λ p. EachIs p rest cells) (let same : length key ≡ 0 + length key = omega arith in same) (each_shown rest 0 (length key) row cells there.2 are) in
      there.1 ∙ ap Some (whole ∙ ap (λ n. cells_from n 0 cells) long ∙ each_is (key ++ rest) 0 cells (each_both key rest 0 cells first behind))

pub same_fault : {T E : Type 0} {a b : E} → ◌≡◌ {A = Result T E} (Err a) (Err b) → a ≡ b
same_fault e = cc
