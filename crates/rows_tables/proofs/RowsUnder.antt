-- The rows whose keys begin alike: each is the row of one key, which ends with one more value.
use Rattle.std.proofs.Common.{◌≡◌, ℕ, suc, ◌+◌, Bool, true, false, List, [], ◌∷◌, ◌++◌, append-nil, length, length-append, map, filter, drop, Some, None, refl, sym, subst, ◌∙◌, inl, inr, Less, arith}
use Rattle.std.specs.List.{AllByRecursion}
use Rattle.std.specs.List.Sorted.{IsPermutation}
use Rattle.std.proofs.lemmas.Bool.{cases_Bool}
use Rattle.std.proofs.lemmas.Cmp.{tied_itself}
use Rattle.sqlite_value.specs.declared.value.Value.{Value}
use Rattle.sqlite_value.specs.declared.value.Value.TheVariants.{Null}
use Rattle.sqlite_value.specs.Order.{Row, column, value_cmp}
use Rattle.sqlite_value.specs.Keys.{plain}
use Rattle.sqlite_value.proofs.OrderLemmas.{value_cmp_total}
use Rattle.sqlite_trees.specs.Tree.{IsTable, rowid}
use Rattle.sqlite_sql.specs.Ops.{is_null}
use Rattle.sqlite_schema.specs.declared.schema.Column.{Column}
use Rattle.sqlite_schema.specs.declared.schema.Table.{Table}
use Rattle.sqlite_schema.specs.Rules.{agree}
use Rattle.sqlite_rules.specs.Lists.{Has}
use Rattle.sqlite_rules.proofs.ListLemmas.{all_has, has_filtered, has_kept}
use Rattle.sqlite_rules.proofs.ProbeLemmas.{has_mapped, mapped_has}
use Rattle.sqlite.specs.Effect.{Database}
use Rattle.rows_tables.specs.Tables.{keyed}
use Rattle.rows_tables.specs.Keyed.{HasSchema, row_at}
use Rattle.rows_tables.proofs.Columns.{AreExact, EachIs, exact_front, each_both, each_front}
use Rattle.rows_tables.proofs.KeyedRows.{key_begins, has_values, whole_in}
use Rattle.rows_tables.proofs.KeyedTables.{places_from, IsInSchema}
use Rattle.rows_tables.proofs.NoneTwice.{NoneTwice, same_members}
use Rattle.rows_tables.proofs.RowOfKey.{one_of_cells, at_its_key, there_at}
use Rattle.rows_tables.proofs.Statements.{numbered_in}

-- where two that pass have no cells in common, none stands twice
pub once_shown : (p : Row → Bool) (rows : List Row) → IsTable rows → ((a b : Row) → Has rows a → Has rows b → p a ≡ true → p b ≡ true → drop 1 a ≡ drop 1 b → a ≡ b) → NoneTwice (map (drop 1) (filter p rows))
once_shown p [] rises apart = tt
once_shown p (r ∷ rows) rises apart =
    let later = once_shown p rows rises.1 (λ a b h k. apart a b (inr h) (inr k)) in
    elim (cases_Bool (p r)) [
      | inl is ↦ rw is (
        λ h. absurd (
            let s = has_mapped (drop 1) (filter p rows) (drop 1 r) h in
            let there = has_filtered p rows s.0 s.1 in
            let same : s.0 ≡ r = sym (apart r s.0 (inl refl) (inr there.0) is there.1 s.2) in
            let below : value_cmp (rowid r) (rowid r) ≡ Less = subst (λ x. value_cmp (rowid r) (rowid x) ≡ Less) same (all_has _ rows s.0 rises.0 there.0) in
            let tied = sym (tied_itself value_cmp_total (rowid r)) ∙ below in
            cc),
        later,
      )
      | inr isnt ↦ rw isnt later
    ]

all_both : {X : Type 0} (P : X → Type 0) (xs : List X) (x : X) → AllByRecursion P xs → P x → AllByRecursion P (xs ++ x ∷ [])
all_both P [] x all last = (last, tt)
all_both P (y ∷ xs) x all last = (all.0, all_both P xs x all.1 last)

module _ {at : ℕ} {name : List ℕ} {tree : ℕ} {columns : List Column} {X : Type 0} (beginning : Row) (value : X → Value) (in_schema : IsInSchema at name tree (suc (length beginning)) columns)
    (exact : (x : X) → AreExact columns (beginning ++ value x ∷ [])) (present : AllByRecursion (λ v. is_null v ≡ false) beginning) (value_present : (x : X) → is_null (value x) ≡ false)
    (db : Database) (has : HasSchema db) where
  abbrev table : Table
  table = keyed name tree (places_from (suc (length beginning)) 1) columns

  abbrev key : X → Row
  key x = beginning ++ value x ∷ []

  abbrev rows : List Row
  rows = db.trees tree

  abbrev is_under : Row → Bool
  is_under row = agree plain (places_from (length beginning) 1) row (places_from (length beginning) 1) (Null ∷ beginning)

  long : (x : X) → length (key x) ≡ suc (length beginning)
  long x = omega (arith, length-append beginning (value x ∷ []))

  not_null : (x : X) → AllByRecursion (λ v. is_null v ≡ false) (key x)
  not_null x = all_both (λ v. is_null v ≡ false) beginning (value x) present (value_present x)

  -- a row under the beginning that ends with the value begins with the key
  begins_with : (r : Row) (x : X) → Has rows r → is_under r ≡ true → column r (1 + length beginning) ≡ value x → EachIs 1 (key x) r
  begins_with r x there is last =
      let first = key_begins columns beginning [] r (exact_front columns beginning (value x ∷ []) (exact x)) (whole_in in_schema db has r there).typed
      (subst (λ other. agree plain (places_from (length beginning) 1) r (places_from (length beginning) 1) (Null ∷ other) ≡ true) (sym (append-nil beginning)) is) in
      each_both beginning (value x ∷ []) 1 r first (last, tt)

  -- the row of a key is there, under the beginning
  pub record IsRowUnder (cells : Row) : Type 0 where
    pub row : Row
    pub there : Has rows row
    pub begins : is_under row ≡ true
    pub are_cells : drop 1 row ≡ cells

  pub under_row : (x : X) (cells : Row) → row_at table (key x) db ≡ Some cells → IsRowUnder cells
  under_row x cells is =
      let it = there_at in_schema db has (key x) (long x) (exact x) (not_null x) cells is in
      record { row = it.row; there = it.there; begins = has_values beginning it.row present (each_front beginning (value x ∷ []) 1 it.row it.begins); are_cells = it.are_cells }

  module _ (ends : (r : Row) → Has rows r → (x : X) × (column r (1 + length beginning) ≡ value x)) where
    -- each row under the beginning is that of a key
    pub row_under : (r : Row) → Has rows r → is_under r ≡ true → (x : X) × (row_at table (key x) db ≡ Some (drop 1 r))
    row_under r there is =
        let x = ends r there in
        (x.0, at_its_key in_schema db has (key x.0) (long x.0) (exact x.0) (not_null x.0) r there (begins_with r x.0 there is x.1))

    under_once : (a b : Row) → Has rows a → Has rows b → is_under a ≡ true → is_under b ≡ true → drop 1 a ≡ drop 1 b → a ≡ b
    under_once a b h k is are same =
        let x = ends a h in
        one_of_cells in_schema db has (key x.0) (long x.0) (exact x.0) (not_null x.0) a b h k (begins_with a x.0 h is x.1) same

    -- a list in which each row of such a key stands once, and nothing else
    pub rows_are : (wanted : List Row) → NoneTwice wanted → ((x : X) (cells : Row) → row_at table (key x) db ≡ Some cells → Has wanted cells) → ((cells : Row) → Has wanted cells → (x : X) × (row_at table (key x) db ≡ Some cells))
        → IsPermutation (map (drop 1) (filter is_under rows)) wanted
    rows_are wanted once found from =
        same_members (map (drop 1) (filter is_under rows)) wanted (once_shown is_under rows (numbered_in table in_schema.listed db has).0 under_once) once
        (λ cells h.
        let r = has_mapped (drop 1) (filter is_under rows) cells h in
        let there = has_filtered is_under rows r.0 r.1 in
        let x = row_under r.0 there.0 there.1 in
        subst (Has wanted) (sym r.2) (found x.0 (drop 1 r.0) x.1))
        (λ cells h.
        let x = from cells h in
        let it = under_row x.0 cells x.1 in
        subst (Has (map (drop 1) (filter is_under rows))) it.are_cells (mapped_has (drop 1) (filter is_under rows) it.row (has_kept is_under rows it.row it.there it.begins)))

    pub no_rows : ((x : X) → row_at table (key x) db ≡ None) → IsPermutation (map (drop 1) (filter is_under rows)) []
    no_rows none = rows_are [] tt (λ x cells is. absurd (let e = sym (none x) ∙ is in cc)) (λ cells h. absurd h)
