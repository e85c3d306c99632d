-- The rows of a table whose key is one text, in the order of the texts.
use Rattle.std.proofs.Common.{◌≡◌, ℕ, Bool, true, List, [], ◌∷◌, map, filter, Less, refl, sym, ap, subst, ◌∙◌, inl, inr}
use Rattle.std.specs.Cmp.{tied_itself}
use Rattle.std.specs.Cmp.Lexicographic.{nat_list_cmp_total}
use Rattle.std.specs.List.Sorted.{IsPermutation}
use Rattle.std.proofs.lemmas.Bool.{cases_Bool}
use Rattle.sqlite_value.specs.declared.value.Value.TheVariants.{Text}
use Rattle.sqlite_value.specs.declared.keys.Key.{Key}
use Rattle.sqlite_value.specs.Order.{Row, column, value_cmp}
use Rattle.sqlite_value.proofs.OrderLemmas.{value_cmp_total, value_cmp-Text}
use Rattle.sqlite_schema.specs.declared.schema.Column.{Column}
use Rattle.sqlite_trees.specs.Tree.{IsAscending, IsTable, Trees, rowid}
use Rattle.sqlite_trees.proofs.ListLemmas.{map-map, ascending-map, ascending_weaker}
use Rattle.sqlite_sql.specs.Term.{Term, col}
use Rattle.sqlite_sql.specs.Query.{Query, Output, output, output_cmp, page}
use Rattle.sqlite_rules.specs.Lists.{Has}
use Rattle.sqlite_rules.proofs.ListLemmas.{all_has, has_filtered, has_kept}
use Rattle.sqlite_rules.proofs.ProbeLemmas.{has_mapped, mapped_has}
use Rattle.sqlite.specs.Effect.{Database}
use Rattle.account_rules.specs.Devices.{name_cmp}
use Rattle.rows_tables.specs.Places.{account_column}
use Rattle.rows_tables.specs.Tables.{keyed}
use Rattle.rows_tables.specs.Keyed.{HasSchema}
use Rattle.rows_tables.specs.Queries.{first_of_table, passes, shows_of, IsShownBy}
use Rattle.rows_tables.proofs.Columns.{AreExact}
use Rattle.rows_tables.proofs.KeyedTables.{places_from, IsInSchema}
use Rattle.rows_tables.proofs.NoneTwice.{NoneTwice, same_members}
use Rattle.rows_tables.proofs.Queries.{env, answer_in_order, answer_ordered, permuted_has}
use Rattle.rows_tables.proofs.RowOfKey.{one_row}
use Rattle.rows_tables.proofs.Statements.{numbered_in}
use Rattle.rows_statements.proofs.QueueJobs.{has_limited}
use Rattle.rows_statements.proofs.QueueTexts.{rising}

one_text : {s t : List ℕ} → Text s ≡ Text t → s ≡ t
one_text e = cc

never_below : (name : List ℕ) → name_cmp name name ≡ Less → ⊥
never_below name below = let tied = sym (tied_itself nat_list_cmp_total name) ∙ below in cc

-- where what is told of two rows is not the same, nothing is told twice
once_told : {Y : Type 0} (told : Row → Y) (p : Row → Bool) (rows : List Row) → IsTable rows → ((a b : Row) → Has rows a → Has rows b → told a ≡ told b → a ≡ b) → NoneTwice (map told (filter p rows))
once_told told p [] rises apart = tt
once_told told p (r ∷ rows) rises apart =
    let later = once_told told p rows rises.1 (λ a b h k. apart a b (inr h) (inr k)) in
    elim (cases_Bool (p r)) [
      | inl is ↦ rw is (
        λ h. absurd (
            let s = has_mapped told (filter p rows) (told r) h in
            let there = has_filtered p rows s.0 s.1 in
            let same : s.0 ≡ r = sym (apart r s.0 (inl refl) (inr there.0) s.2) in
            let below : value_cmp (rowid r) (rowid r) ≡ Less = subst (λ x. value_cmp (rowid r) (rowid x) ≡ Less) same (all_has _ rows s.0 rises.0 there.0) in
            let tied = sym (tied_itself value_cmp_total (rowid r)) ∙ below in
            cc),
        later,
      )
      | inr isnt ↦ rw isnt later
    ]

-- by the first column
abbrev pub by_name : List (Term × Key)
by_name = (col 1 account_column.name, rising) ∷ []

module _ (tree : ℕ) (tests shows : List Term) (limit : Term) (params : Row) where
  abbrev pub named_query : Query
  named_query = first_of_table tree tests shows by_name limit

  -- each row that is shown is of one that passes
  pub shown_of_row : (trees : Trees) (rows : List Row) → IsShownBy named_query trees params rows → (x : Row) → Has rows x → (r : Row) × Has (trees tree) r × (passes tests params r ≡ true) × (x ≡ shows_of shows params r)
  shown_of_row trees rows answer x h =
      let all = answer_ordered tree tests shows by_name limit trees params rows answer in
      let kept : Has (map (λ (o : Output). o.1) all.0) x = has_limited _ (map (λ (o : Output). o.1) all.0) x (subst (λ (l : List Row). Has l x) all.3 h) in
      let o = has_mapped (λ (o : Output). o.1) all.0 x kept in
      let r = has_mapped (λ row. output named_query (env params row)) (filter (passes tests params) (trees tree)) o.0 (permuted_has _ all.0 o.0 all.1 o.1) in
      let there = has_filtered (passes tests params) (trees tree) r.0 r.1 in
      (r.0, there.0, there.1, o.2 ∙ ap (λ (o : Output). o.1) r.2)

  module _ {at : ℕ} {label : List ℕ} {columns : List Column} (in_schema : IsInSchema at label tree 1 columns) (exact : (name : List ℕ) → AreExact columns (Text name ∷ []))
      (texts : (db : Database) → HasSchema db → (r : Row) → Has (db.trees tree) r → (name : List ℕ) × (column r account_column.name ≡ Text name)) where
    one_named : (db : Database) → HasSchema db → (a b : Row) → Has (db.trees tree) a → Has (db.trees tree) b → output named_query (env params a) ≡ output named_query (env params b) → a ≡ b
    one_named db has a b h k same =
        let name = texts db has a h in
        let alike : column a 1 ≡ column b 1 = ap (λ (o : Output). column o.0 0) same in
        one_row in_schema db has (Text name.0 ∷ []) refl (exact name.0) (refl, tt) a b h k (name.1, tt) (sym alike ∙ name.1, tt)

    module _ {X : Type 0} (key : X → List ℕ) (shown : X → Row) where
      abbrev told : X → Output
      told x = (Text (key x) ∷ [], shown x)

      told_once : (wanted : List X) → IsAscending (λ a b. name_cmp (key a) (key b) ≡ Less) wanted → NoneTwice (map told wanted)
      told_once [] up = tt
      told_once (x ∷ wanted) up = (
        λ h.
            let y = has_mapped told wanted (told x) h in
            let same : key x ≡ key y.0 = one_text (ap (λ (o : Output). column o.0 0) y.2) in
            never_below (key x) (subst (λ n. name_cmp (key x) n ≡ Less) (sym same) (all_has _ wanted y.0 up.0 y.1)),
        told_once wanted up.1,
      )

      told_less : (a b : X) → name_cmp (key a) (key b) ≡ Less → output_cmp named_query (told a) (told b) ≡ Less
      told_less a b less = rw (value_cmp-Text (key a) (key b), less) refl

      -- what is shown are the first so many of what is wanted, if that rises and the rows that pass are those of it
      pub shown_by_name : (db : Database) → HasSchema db → (rows : List Row) → IsShownBy named_query db.trees params rows → (wanted : List X) → IsAscending (λ a b. name_cmp (key a) (key b) ≡ Less) wanted
          → ((r : Row) → Has (db.trees tree) r → passes tests params r ≡ true → (x : X) × Has wanted x × (output named_query (env params r) ≡ told x))
          → ((x : X) → Has wanted x → (r : Row) × Has (db.trees tree) r × (passes tests params r ≡ true) × (output named_query (env params r) ≡ told x))
          → rows ≡ page named_query params (map shown wanted)
      shown_by_name db has rows answer wanted up found from =
          let outputs = map (λ r. output named_query (env params r)) (filter (passes tests params) (db.trees tree)) in
          let once = once_told (λ r. output named_query (env params r)) (passes tests params) (db.trees tree) (numbered_in (keyed label tree (places_from 1 1) columns) in_schema.listed db has).0 (one_named db has) in
          let same : IsPermutation outputs (map told wanted) = same_members outputs (map told wanted) once (told_once wanted up)
          (λ o h.
          let r = has_mapped (λ r. output named_query (env params r)) (filter (passes tests params) (db.trees tree)) o h in
          let there = has_filtered (passes tests params) (db.trees tree) r.0 r.1 in
          let x = found r.0 there.0 there.1 in
          subst (Has (map told wanted)) (sym (r.2 ∙ x.2)) (mapped_has told wanted x.0 x.1))
          (λ o h.
          let x = has_mapped told wanted o h in
          let r = from x.0 x.1 in
          subst (Has outputs) (r.3 ∙ sym x.2) (mapped_has (λ r. output named_query (env params r)) (filter (passes tests params) (db.trees tree)) r.0 (has_kept (passes tests params) (db.trees tree) r.0 r.1 r.2))) in
          answer_in_order tree tests shows by_name limit db.trees params rows answer (map told wanted) same
          (ascending-map (λ a b. output_cmp named_query a b ≡ Less) told wanted (ascending_weaker (λ a b. name_cmp (key a) (key b) ≡ Less) (λ a b. output_cmp named_query (told a) (told b) ≡ Less) told_less wanted up))
          ∙ ap (page named_query params) (map-map (λ (o : Output). o.1) told wanted)
