-- Looking a row up by its key, before and after a write.
use Rattle.std.proofs.Common.{◌≡◌, Bool, true, false, ◌&&◌, cond, List, [], ◌∷◌, find, Option, Some, None, refl, sym, ap, ◌∙◌, ◌⊎◌, inl, inr, Ordering, Less, Equal, Greater, ℤ}
use Rattle.std.proofs.lemmas.Bool.{cases_Bool}
use Rattle.sqlite_value.specs.declared.value.Value.TheVariants.{Int, Null}
use Rattle.sqlite_value.specs.Order.{Row, value_cmp}
use Rattle.sqlite_value.specs.Keys.{plain}
use Rattle.sqlite_sql.specs.Ops.{binary}
use Rattle.sqlite_trees.specs.Tree.{rowid}
use Rattle.sqlite_schema.specs.declared.schema.Table.{Table}
use Rattle.sqlite_schema.specs.Rules.{agree, differ, clashes}
use Rattle.sqlite_rules.specs.Lists.{Has}
use Rattle.sqlite_rules.proofs.ListLemmas.{all_has, has_found, some_from}
use Rattle.sqlite_rules.proofs.PlaceLemmas.{tied_same}
use Rattle.sqlite_rules.proofs.TableLemmas.{int_is}
use Rattle.sqlite_rules.proofs.KeyLemmas.{agree_back, agree_chain}
use Rattle.rows_tables.specs.Keyed.{has_key}
use Rattle.rows_tables.proofs.Edits.{AreNumbered}

-- ---- finding one

pub finds_none : (p : Row → Bool) (rows : List Row) → ((x : Row) → Has rows x → p x ≡ false) → find p rows ≡ None
finds_none p [] none = refl
finds_none p (r ∷ rows) none = rw (none r (inl refl)) (finds_none p rows (λ x h. none x (inr h)))

pub finds_only : (p : Row → Bool) (rows : List Row) (x : Row) → Has rows x → p x ≡ true → ((y : Row) → Has rows y → p y ≡ true → y ≡ x) → find p rows ≡ Some x
finds_only p [] x h is only = absurd h
finds_only p (r ∷ rows) x (inl same) is only = rw (ap p (sym same) ∙ is) (ap Some (sym same))
finds_only p (r ∷ rows) x (inr later) is only = elim (cases_Bool (p r)) [
  | inl here ↦ rw here (ap Some (only r (inl refl) here))
  | inr not ↦ rw not (finds_only p rows x later is (λ y k. only y (inr k)))
]

pub lacks : (p : Row → Bool) (rows : List Row) (x : Row) → Has rows x → find p rows ≡ None → p x ≡ false
lacks p [] x h none = absurd h
lacks p (r ∷ rows) x h none = elim (cases_Bool (p r)) [
  | inl here ↦ absurd (let some = rw here at none in cc)
  | inr not ↦ elim h [ inl same ↦ ap p same ∙ not | inr later ↦ lacks p rows x later (rw not at none) ]
]

-- ---- no key comes twice

abbrev pub IsOnce : Table → List Row → Type 0
IsOnce table rows = (a b : Row) → Has rows a → Has rows b → agree plain table.primary a table.primary b ≡ true → a ≡ b

numbers_tie : (a b : ℤ) → differ (Int a) (Int b) ≡ false → value_cmp (Int a) (Int b) ≡ Equal
unfolding binary
numbers_tie a b h = by_case (value_cmp (Int a) (Int b)) refl
  where
    by_case : (o : Ordering) → value_cmp (Int a) (Int b) ≡ o → value_cmp (Int a) (Int b) ≡ Equal
    by_case Less e = absurd (let differs = rw e at h in cc)
    by_case Equal e = e
    by_case Greater e = absurd (let differs = rw e at h in cc)

pub once : (table : Table) (rows : List Row) → AreNumbered rows → ((r : Row) → Has rows r → clashes plain table.primary rows r ≡ false) → IsOnce table rows
once table rows was unique a b h k same = elim (cases_Bool (differ (rowid a) (rowid b))) [
  | inl apart ↦ absurd (
      let both : (agree plain table.primary a table.primary b && differ (rowid a) (rowid b)) ≡ true = rw (same, apart) refl in
      let clash = some_from (λ other. agree plain table.primary other table.primary b && differ (rowid other) (rowid b)) rows a h both in
      let none = unique b k in
      cc)
  | inr tied ↦
      let first = int_is (rowid a) (all_has _ rows a was.1 h) in
      let second = int_is (rowid b) (all_has _ rows b was.1 k) in
      tied_same rows a b was.0 h k (rw (first, second) (numbers_tie _ _ (rw (first, second) at tied)))
]

-- ---- after a write

-- the row of these cells is there, and beside it each old row that has another key
pub record Replaces (same : Row → Bool) (new : Row) (old after : List Row) : Type 0 where
  pub here : Has after new
  pub from : (x : Row) → Has after x → (x ≡ new) ⊎ (Has old x × (same x ≡ false))
  pub kept : (x : Row) → Has old x → same x ≡ false → Has after x

-- the rows that are left are the old ones that were not meant
pub record Removes (meant : Row → Bool) (old after : List Row) : Type 0 where
  pub from : (x : Row) → Has after x → Has old x × (meant x ≡ false)
  pub kept : (x : Row) → Has old x → meant x ≡ false → Has after x

abbrev pub found_at : Table → Row → List Row → Option Row
found_at table key rows = find (has_key table key) rows

has_or_not : (o : Option Row) → (o ≡ None) ⊎ ((x : Row) × (o ≡ Some x))
has_or_not None = inl refl
has_or_not (Some x) = inr (x, refl)

module _ (table : Table) (key : Row) (old after : List Row) where
  -- two rows of one key agree
  pub key_shared : (a b : Row) → has_key table key a ≡ true → has_key table key b ≡ true → agree plain table.primary a table.primary b ≡ true
  key_shared a b h k = agree_chain plain table.primary table.primary table.primary a (Null ∷ key) b h (agree_back plain table.primary table.primary b (Null ∷ key) k)

  -- a row that agrees with one of the key has it too
  pub key_passed : (a b : Row) → agree plain table.primary a table.primary b ≡ true → has_key table key b ≡ true → has_key table key a ≡ true
  key_passed a b h k = agree_chain plain table.primary table.primary table.primary a b (Null ∷ key) h k

  -- a key that the write does not concern
  still_found : IsOnce table after → ((x : Row) → Has after x → has_key table key x ≡ true → Has old x) → ((x : Row) → Has old x → has_key table key x ≡ true → Has after x)
      → found_at table key after ≡ found_at table key old
  still_found one from kept = elim (has_or_not (found_at table key old)) [
    | inl none ↦ finds_none (has_key table key) after (λ x k. elim (cases_Bool (has_key table key x)) [
      | inl is ↦ absurd (let isnt = lacks (has_key table key) old x (from x k is) none in cc)
      | inr isnt ↦ isnt
    ]) ∙ sym none
    | inr some ↦
        let there = has_found (has_key table key) old some.0 some.1 in
        let stays = kept some.0 there.0 there.1 in
        finds_only (has_key table key) after some.0 stays there.1 (λ y k is. one y some.0 k stays (key_shared y some.0 is there.1)) ∙ sym some.1
  ]

  pub replaced : (same : Row → Bool) (new : Row) → ((x : Row) → same x ≡ agree plain table.primary x table.primary new) → Replaces same new old after → IsOnce table after
      → found_at table key after ≡ cond (has_key table key new) (Some new) (found_at table key old)
  replaced same new means wrote one = elim (cases_Bool (has_key table key new)) [
    | inl is ↦ rw is (finds_only (has_key table key) after new wrote.here is (λ y k e. one y new k wrote.here (key_shared y new e is)))
    | inr isnt ↦ rw isnt (still_found one
        (λ x k e. elim (wrote.from x k) [ inl new_is ↦ absurd (let is = ap (has_key table key) (sym new_is) ∙ e in cc) | inr was ↦ was.0 ])
        (λ x k e. wrote.kept x k (elim (cases_Bool (same x)) [
          | inl agrees ↦ absurd (let is = key_passed new x (agree_back plain table.primary table.primary x new (sym (means x) ∙ agrees)) e in cc)
          | inr apart ↦ apart
        ])))
  ]

  pub removed : (meant : Row → Bool) → Removes meant old after → IsOnce table after → (concerns : Bool) → ((x : Row) → has_key table key x ≡ true → meant x ≡ concerns)
      → found_at table key after ≡ cond concerns None (found_at table key old)
  removed meant wrote one true means = finds_none (has_key table key) after (λ x k. elim (cases_Bool (has_key table key x)) [
    | inl is ↦ absurd (let gone = means x is in let left = (wrote.from x k).1 in cc)
    | inr isnt ↦ isnt
  ])
  removed meant wrote one false means = still_found one (λ x k is. (wrote.from x k).0) (λ x k is. wrote.kept x k (means x is))
