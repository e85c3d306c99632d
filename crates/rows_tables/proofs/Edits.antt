-- What an edit leaves of a table, row by row.
use Rattle.std.proofs.Common.{◌≡◌, Ok, ℤ, Bool, true, false, not, ◌&&◌, ◌||◌, List, [], ◌∷◌, filter, refl, sym, ap, subst, ◌∙◌, ◌⊎◌, inl, inr, IsTrue, Ordering, Less, Equal, Greater, is_eq}
use Rattle.std.specs.List.{AllByRecursion, list_any}
use Rattle.std.proofs.lemmas.Bool.{cases_Bool, not-true}
use Rattle.std.proofs.lemmas.Cmp.{tied_itself}
use Rattle.sqlite_value.specs.declared.value.Value.TheVariants.{Int}
use Rattle.sqlite_value.specs.Order.{Row, value_cmp}
use Rattle.sqlite_value.proofs.OrderLemmas.{value_cmp_total}
use Rattle.sqlite_trees.specs.Tree.{Trees, rowid, IsTable, has_rowid, without_rowid}
use Rattle.sqlite_trees.specs.View.{is_int}
use Rattle.sqlite_trees.proofs.TreeLemmas.{IsTable-put_row, all-put_row}
use Rattle.sqlite_schema.specs.declared.schema.Table.{Table}
use Rattle.sqlite_schema.specs.declared.schema.Keys.TheVariants.{Enforced}
use Rattle.sqlite_schema.specs.Rules.{Fits}
use Rattle.sqlite_rules.specs.Lists.{Has}
use Rattle.sqlite_rules.specs.Edit.{id_in, without_all, put_all, Applies}
use Rattle.sqlite_rules.specs.Calls.{ids_of}
use Rattle.sqlite_rules.specs.Action.{Writes}
use Rattle.sqlite_rules.proofs.ListLemmas.{all_has, all_from, some_has, some_from, test_has, has_filtered, has_kept}
use Rattle.sqlite_rules.proofs.PlaceLemmas.{tied_same, Tied}
use Rattle.sqlite_rules.proofs.TableLemmas.{int_is, put_all_has, put_all_keeps, put_all_adds}
use Rattle.sqlite.proofs.Callers.{one_step}
use Rattle.rows_tables.specs.Tables.{room_schema}

-- each row has a number, and the numbers rise
abbrev pub AreNumbered : List Row → Type 0
AreNumbered rows = IsTable rows × AllByRecursion (λ r. IsTrue (is_int (rowid r))) rows

-- ---- the rows that an edit leaves are those that it does not name

abbrev pub is_named : List ℤ → Row → Bool
is_named ids r = list_any (λ id. has_rowid id r) ids

filter_twice : (p q : Row → Bool) (rows : List Row) → filter p (filter q rows) ≡ filter (λ r. q r && p r) rows
filter_twice p q [] = refl
filter_twice p q (r ∷ rows) = elim (cases_Bool (q r)) [
  | inl is ↦ rw (is, filter_twice p q rows) refl
  | inr isnt ↦ rw (isnt, filter_twice p q rows) refl
]

filter_alike : (p q : Row → Bool) → ((r : Row) → p r ≡ q r) → (rows : List Row) → filter p rows ≡ filter q rows
filter_alike p q alike [] = refl
filter_alike p q alike (r ∷ rows) = rw (alike r, filter_alike p q alike rows) refl

filter_all : (rows : List Row) → filter (λ _. true) rows ≡ rows
filter_all [] = refl
filter_all (r ∷ rows) = ap (λ more. r ∷ more) (filter_all rows)

neither : (a b : Bool) → (not a && not b) ≡ not (a || b)
neither true b = refl
neither false b = refl

pub left_are : (ids : List ℤ) (rows : List Row) → without_all rows ids ≡ filter (λ r. not (is_named ids r)) rows
left_are [] rows = sym (filter_all rows)
left_are (id ∷ ids) rows =
    left_are ids (without_rowid id rows)
    ∙ filter_twice (λ r. not (is_named ids r)) (λ r. not (has_rowid id r)) rows
    ∙ filter_alike _ (λ r. not (is_named (id ∷ ids) r)) (λ r. neither (has_rowid id r) (is_named ids r)) rows

filter_rises : (p : Row → Bool) (rows : List Row) → IsTable rows → IsTable (filter p rows)
filter_rises p [] rises = tt
filter_rises p (r ∷ rows) rises = elim (cases_Bool (p r)) [
  | inl is ↦ rw is (all_from _ (filter p rows) (λ x h. all_has _ rows x rises.0 (has_filtered p rows x h).0), filter_rises p rows rises.1)
  | inr isnt ↦ rw isnt (filter_rises p rows rises.1)
]

left_numbered : (ids : List ℤ) (rows : List Row) → AreNumbered rows → AreNumbered (without_all rows ids)
left_numbered ids rows was =
    let keeps = λ (r : Row). not (is_named ids r) in
    subst AreNumbered (sym (left_are ids rows)) (filter_rises keeps rows was.0, all_from _ (filter keeps rows) (λ x h. all_has _ rows x was.1 (has_filtered keeps rows x h).0))

put_numbered : (news rows : List Row) → ((n : Row) → Has news n → IsTrue (is_int (rowid n))) → AreNumbered rows → AreNumbered (put_all rows news)
put_numbered [] rows ints was = was
put_numbered (n ∷ news) rows ints was = put_numbered news _ (λ m h. ints m (inr h)) (IsTable-put_row n rows was.0, all-put_row _ n rows (ints n (inl refl)) was.1)

-- ---- rows that a query found are named by their numbers

-- of each row that passes a row was found that shows its number, and of no other
pub record AreFound (passes : Row → Bool) (rows found : List Row) : Type 0 where
  pub sound : (x : Row) → Has found x → (r : Row) × Has rows r × (passes r ≡ true) × (rowid x ≡ rowid r)
  pub complete : (r : Row) → Has rows r → passes r ≡ true → (x : Row) × Has found x × (rowid x ≡ rowid r)

id_has : (found : List Row) (x : Row) → Has found x → Has (ids_of found) (id_in (rowid x))
id_has [] x h = absurd h
id_has (f ∷ found) x (inl same) = inl (ap (λ r. id_in (rowid r)) same)
id_has (f ∷ found) x (inr later) = inr (id_has found x later)

has_id : (found : List Row) (id : ℤ) → Has (ids_of found) id → (x : Row) × Has found x × (id ≡ id_in (rowid x))
has_id [] id h = absurd h
has_id (f ∷ found) id (inl same) = (f, inl refl, same)
has_id (f ∷ found) id (inr later) = let x = has_id found id later in (x.0, inr x.1, x.2)

pub tie_of : (o : Ordering) → is_eq o ≡ true → o ≡ Equal
tie_of Less h = absurd cc
tie_of Equal h = refl
tie_of Greater h = absurd cc

module _ (passes : Row → Bool) (rows found : List Row) (was : AreNumbered rows) (are : AreFound passes rows found) where
  number_of : (r : Row) → Has rows r → rowid r ≡ Int (id_in (rowid r))
  number_of r h = int_is (rowid r) (all_has _ rows r was.1 h)

  named_passes : (x : Row) → Has rows x → is_named (ids_of found) x ≡ true → passes x ≡ true
  named_passes x h named =
      let id = some_has (λ id. has_rowid id x) (ids_of found) named in
      let f = has_id found id.0 id.1 in
      let r = are.sound f.0 f.1 in
      let same : Int id.0 ≡ rowid r.0 = ap Int (f.2 ∙ ap id_in r.3) ∙ sym (number_of r.0 r.1) in
      let tie : Tied x r.0 = subst (λ v. value_cmp (rowid x) v ≡ Equal) same (tie_of _ id.2) in
      ap passes (tied_same rows x r.0 was.0 h r.1 tie) ∙ r.2

  passes_named : (x : Row) → Has rows x → passes x ≡ true → is_named (ids_of found) x ≡ true
  passes_named x h is =
      let f = are.complete x h is in
      let tie : has_rowid (id_in (rowid x)) x ≡ true = ap (λ v. is_eq (value_cmp v (Int (id_in (rowid x))))) (number_of x h) ∙ ap is_eq (tied_itself value_cmp_total (Int (id_in (rowid x)))) in
      some_from (λ id. has_rowid id x) (ids_of found) (id_in (rowid x)) (subst (λ v. Has (ids_of found) (id_in v)) f.2 (id_has found f.0 f.1)) tie

  pub taken_out : (x : Row) → Has (without_all rows (ids_of found)) x → Has rows x × (passes x ≡ false)
  taken_out x h =
      let left = has_filtered (λ r. not (is_named (ids_of found) r)) rows x (subst (λ l. Has l x) (left_are (ids_of found) rows) h) in
      (left.0, elim (cases_Bool (passes x)) [ inl is ↦ absurd (let named = passes_named x left.0 is in let none = not-true _ left.1 in cc) | inr isnt ↦ isnt ])

  pub left_in : (x : Row) → Has rows x → passes x ≡ false → Has (without_all rows (ids_of found)) x
  left_in x h isnt =
      subst (λ l. Has l x) (sym (left_are (ids_of found) rows)) (has_kept (λ r. not (is_named (ids_of found) r)) rows x h (elim (cases_Bool (is_named (ids_of found) x)) [
        | inl named ↦ absurd (let is = named_passes x h named in cc)
        | inr none ↦ ap not none
      ]))

-- ---- one step of a write

-- every other table is as it was, and what the engine keeps of this one is kept
pub record Wrote (table : Table) (db next : Trees) : Type 0 where
  pub others : AllByRecursion (λ t. (t.tree ≡ table.tree → ⊥) → next t.tree ≡ db t.tree) room_schema.tables
  pub numbered : AreNumbered (next table.tree)
  pub fits : Fits room_schema next

module _ (table : Table) (db next : Trees) (gone : List ℤ) (news : List Row) (was : AreNumbered (db table.tree))
    (wrote : Writes room_schema Enforced db (record { table = table; gone = gone; news = news }) (Ok next)) where
  applied : Applies room_schema Enforced db (record { table = table; gone = gone; news = news }) next
  applied = one_step room_schema Enforced db next (record { table = table; gone = gone; news = news }) refl wrote

  pub edit_wrote : Wrote table db next
  edit_wrote = record {
    others = applied.tables;
    numbered = subst AreNumbered (sym applied.rows) (put_numbered news (without_all (db table.tree) gone) (λ n h. test_has _ news n applied.keyed h) (left_numbered gone (db table.tree) was));
    fits = applied.fits;
  }

  pub edit_from : (x : Row) → Has (next table.tree) x → Has news x ⊎ Has (without_all (db table.tree) gone) x
  edit_from x h = put_all_has news (without_all (db table.tree) gone) x (subst (λ l. Has l x) applied.rows h)

  pub edit_keeps : (x : Row) → Has (without_all (db table.tree) gone) x → Has (next table.tree) x
  edit_keeps x h = subst (λ l. Has l x) (sym applied.rows) (put_all_keeps news (without_all (db table.tree) gone) x applied.fresh h)

  pub edit_adds : (x : Row) → Has news x → Has (next table.tree) x
  edit_adds x h = subst (λ l. Has l x) (sym applied.rows) (put_all_adds news (without_all (db table.tree) gone) x applied.fresh h)
