-- The rows under a beginning are those of a map from numbers, each under its key and once.
use Rattle.std.proofs.Common.{◌≡◌, ℕ, suc, ◌+◌, ◌<◌, ℤ, pos, negsuc, Bool, true, false, cond, T, List, [], ◌∷◌, ◌++◌, length, map, filter, drop, Option, Some, None, option_map, refl, sym, ap, subst, ◌∙◌, inl, inr, arith}
use Rattle.std.specs.List.{AllByRecursion}
use Rattle.std.specs.List.Sorted.{IsPermutation}
use Rattle.std.specs.Ordering.{nat_cmp, eq_by_cmp}
use Rattle.std.specs.FinMap.{FinMap, get, entries, is_sorted, entries_sorted, get-entries}
use Rattle.std.specs.FinMap as finite
use Rattle.std.proofs.lemmas.Bool.{eqb-true}
use Rattle.sqlite_value.specs.declared.value.Value.TheVariants.{Null, Int}
use Rattle.sqlite_value.specs.Order.{Row, column}
use Rattle.sqlite_value.specs.Keys.{plain}
use Rattle.sqlite_sql.specs.Ops.{is_null}
use Rattle.sqlite_schema.specs.declared.schema.Column.{Column}
use Rattle.sqlite_schema.specs.Rules.{agree}
use Rattle.sqlite_rules.specs.Lists.{Has}
use Rattle.sqlite_rules.proofs.ListLemmas.{all_has}
use Rattle.sqlite_rules.proofs.ProbeLemmas.{has_mapped, mapped_has}
use Rattle.sqlite.specs.Effect.{Database}
use Rattle.account_state.proofs.FiniteMaps.{T_first, T_second, number_tie, all_above, entries_here}
use Rattle.rows_tables.specs.Tables.{keyed}
use Rattle.rows_tables.specs.Keyed.{HasSchema, row_at}
use Rattle.rows_tables.specs.Cells.{number}
use Rattle.rows_tables.specs.Accounts.{under, whole}
use Rattle.rows_tables.proofs.Columns.{AreExact}
use Rattle.rows_tables.proofs.KeyedRows.{same_row}
use Rattle.rows_tables.proofs.KeyedTables.{places_from, IsInSchema}
use Rattle.rows_tables.proofs.NoneTwice.{NoneTwice}
use Rattle.rows_tables.proofs.RowsUnder.{rows_are}

found_entry : {X : Type 0} (es : List (ℕ × X)) (k : ℕ) (v : X) → finite.find nat_cmp k es ≡ Some v → Has es (k, v)
found_entry [] k v is = absurd (let e = is in cc)
found_entry {X} (e ∷ es) k v is = by_tie (eq_by_cmp nat_cmp k e.0) refl is (found_entry es k v)
  where
    by_tie : (b : Bool) → eq_by_cmp nat_cmp k e.0 ≡ b → cond b (Some e.1) (finite.find nat_cmp k es) ≡ Some v → (finite.find nat_cmp k es ≡ Some v → Has es (k, v)) → Has (e ∷ es) (k, v)
    by_tie true tie found later =
        let key : e.0 ≡ k = eqb-true e.0 k (sym (number_tie k e.0) ∙ tie) in
        let value : e.1 ≡ v = cc in
        inl (λ i. (sym key i, sym value i))
    by_tie false tie found later = inr (later found)

module _ {X : Type 0} where
  once_mapped : (f : ℕ × X → Row) (es : List (ℕ × X)) → T (is_sorted nat_cmp es) → ((a b : ℕ × X) → Has es a → Has es b → f a ≡ f b → a.0 ≡ b.0) → NoneTwice (map f es)
  once_mapped f [] sorted apart = tt
  once_mapped f (e ∷ es) sorted apart = (
    λ h.
        let s = has_mapped f es (f e) h in
        let lower = all_has (λ (later : ℕ × X). e.0 < later.0) es s.0 (all_above e.0 es (T_first _ _ sorted)) s.1 in
        let same = apart e s.0 (inl refl) (inr s.1) s.2 in
        absurd (omega (arith, lower, same)),
    once_mapped f es (T_second _ _ sorted) (λ a b h k. apart a b (inr h) (inr k)),
  )

  -- a row for each key
  module _ (m : FinMap nat_cmp X) (cells : ℕ → X → Row) where
    abbrev rows_of : List Row
    rows_of = map (λ (e : ℕ × X). cells e.0 e.1) (entries m)

    entry_there : (e : ℕ × X) → Has (entries m) e → get m e.0 ≡ Some e.1
    entry_there e h = all_has (λ (e : ℕ × X). get m e.0 ≡ Some e.1) (entries m) e (entries_here m) h

    rows_once : (place : ℕ) → ((k : ℕ) (v : X) → get m k ≡ Some v → column (cells k v) place ≡ number k) → NoneTwice rows_of
    rows_once place numbered = once_mapped (λ (e : ℕ × X). cells e.0 e.1) (entries m) (entries_sorted m) (λ a b h k same.
        let first = numbered a.0 a.1 (entry_there a h) in
        let second = numbered b.0 b.1 (entry_there b k) in
        same_number a.0 b.0 (sym first ∙ ap (λ r. column r place) same ∙ second))
      where
        same_number : (j k : ℕ) → number j ≡ number k → j ≡ k
        same_number j k e = cc

    rows_found : (n : ℤ) (row : Row) → Some row ≡ option_map (cells (whole n)) (under m n) → Has rows_of row
    rows_found (pos k) row is = by_value (get m k) refl is
      where
        by_value : (o : Option X) → get m k ≡ o → Some row ≡ option_map (cells k) o → Has rows_of row
        by_value None there e = absurd (let no = e in cc)
        by_value (Some v) there e =
            subst (Has rows_of) (sym (same_row e)) (mapped_has (λ (e : ℕ × X). cells e.0 e.1) (entries m) (k, v) (found_entry (entries m) k v (sym (get-entries m k) ∙ there)))
    rows_found (negsuc k) row is = absurd (let no = is in cc)

    rows_from : (row : Row) → Has rows_of row → (n : ℤ) × (option_map (cells (whole n)) (under m n) ≡ Some row)
    rows_from row h =
        let e = has_mapped (λ (e : ℕ × X). cells e.0 e.1) (entries m) row h in
        (pos e.0.0, ap (option_map (cells e.0.0)) (entry_there e.0 e.1) ∙ ap Some (sym e.2))

-- ---- the rows under a beginning, where each key has what the map has

module _ {at : ℕ} {name : List ℕ} {tree : ℕ} {columns : List Column} (beginning : Row) (in_schema : IsInSchema at name tree (suc (length beginning)) columns)
    (exact : (n : ℤ) → AreExact columns (beginning ++ Int n ∷ [])) (present : AllByRecursion (λ v. is_null v ≡ false) beginning) (db : Database) (has : HasSchema db)
    (ends : (r : Row) → Has (db.trees tree) r → (n : ℤ) × (column r (1 + length beginning) ≡ Int n)) where
  pub rows_of_map : {X : Type 0} (m : FinMap nat_cmp X) (cells : ℕ → X → Row) → ((k : ℕ) (v : X) → get m k ≡ Some v → column (cells k v) (length beginning) ≡ number k)
      → ((n : ℤ) → row_at (keyed name tree (places_from (suc (length beginning)) 1) columns) (beginning ++ Int n ∷ []) db ≡ option_map (cells (whole n)) (under m n))
      → IsPermutation (map (drop 1) (filter (λ row. agree plain (places_from (length beginning) 1) row (places_from (length beginning) 1) (Null ∷ beginning)) (db.trees tree))) (map (λ (e : ℕ × X). cells e.0 e.1) (entries m))
  rows_of_map m cells numbered are =
      rows_are beginning Int in_schema exact present (λ n. refl) db has ends (rows_of m cells) (rows_once m cells (length beginning) numbered)
      (λ n row is. rows_found m cells n row (sym is ∙ are n)) (λ row h. let n = rows_from m cells row h in (n.0, are n.0 ∙ n.1))
