-- Values of a STRICT column that SQL's = finds equal are the same.
use Rattle.std.proofs.Common.{◌≡◌, ◌≢◌, ℕ, zero, suc, ◌+◌, ℤ, true, not, ◌||◌, false, List, [], ◌∷◌, ◌++◌, length, drop, None, Some, slice_get, refl, sym, ap, subst, ◌∙◌, is_eq, int_cmp, arith}
use Rattle.std.specs.List.{AllByRecursion}
use Rattle.std.proofs.lemmas.Bool.{and_parts, true≢false}
use Rattle.std.proofs.lemmas.Cmp.{tied_itself}
use Rattle.std.proofs.lemmas.Map.Text.{is_eq-slice_cmp}
use Rattle.std.proofs.lemmas.Slice.Eq.{bytes_eq-Decides}
use Rattle.std.proofs.lemmas.Int.{ints}
use Rattle.std.proofs.lemmas.Bool.Decides.{nat_tests}
use Rattle.sqlite_value.specs.declared.value.Value.{Value}
use Rattle.sqlite_value.specs.declared.value.Value.TheVariants.{Null, Int, Real, Text, Blob}
use Rattle.sqlite_value.specs.declared.keys.Collation.TheVariants.{Binary}
use Rattle.sqlite_value.specs.Order.{Row, column}
use Rattle.sqlite_value.proofs.OrderLemmas.{value_cmp-Text, value_cmp-Int, value_cmp_total}
use Rattle.sqlite_sql.specs.Ops.{binary, is_null}
use Rattle.sqlite_schema.specs.declared.schema.Kind.TheVariants as kind
use Rattle.sqlite_schema.specs.declared.schema.Column.{Column}
use Rattle.sqlite_schema.specs.Names.{is_key}
use Rattle.sqlite_schema.specs.Rules.{is_of, suits, equal, are_typed, are_present}
use Rattle.rows_tables.proofs.StatementParts.{equal_ties}

pub text_is : (v : Value) (t : List ℕ) → is_of kind.Text v ≡ true → equal Binary v (Text t) ≡ true → v ≡ Text t
unfolding binary
text_is Null t typed same = absurd (let e = same in cc)
text_is (Int n) t typed same = absurd (let e = typed in cc)
text_is (Real x) t typed same = absurd (let e = typed in cc)
text_is (Blob b) t typed same = absurd (let e = typed in cc)
text_is (Text s) t typed same = ap Text ((bytes_eq-Decides s t).0 (sym (is_eq-slice_cmp s t) ∙ ap is_eq (sym (value_cmp-Text s t) ∙ equal_ties (Text s) (Text t) same)))

same_integer : (m n : ℤ) → is_eq (int_cmp m n) ≡ true → m ≡ n
same_integer m n h = grind (arith, ints, nat_tests)

pub integer_is : (v : Value) (n : ℤ) → is_of kind.Integer v ≡ true → equal Binary v (Int n) ≡ true → v ≡ Int n
unfolding binary
integer_is Null n typed same = absurd (let e = same in cc)
integer_is (Int m) n typed same = ap Int (same_integer m n (ap is_eq (sym (value_cmp-Int m n) ∙ equal_ties (Int m) (Int n) same)))
integer_is (Real x) n typed same = absurd (let e = typed in cc)
integer_is (Text t) n typed same = absurd (let e = typed in cc)
integer_is (Blob b) n typed same = absurd (let e = typed in cc)

pub text_there : (v : Value) → is_of kind.Text v ≡ true → v ≢ Null → (t : List ℕ) × (v ≡ Text t)
text_there Null typed present = absurd (present refl)
text_there (Int n) typed present = absurd (let e = typed in cc)
text_there (Real x) typed present = absurd (let e = typed in cc)
text_there (Text t) typed present = (t, refl)
text_there (Blob b) typed present = absurd (let e = typed in cc)

pub integer_there : (v : Value) → is_of kind.Integer v ≡ true → v ≢ Null → (n : ℤ) × (v ≡ Int n)
integer_there Null typed present = absurd (present refl)
integer_there (Int n) typed present = (n, refl)
integer_there (Real x) typed present = absurd (let e = typed in cc)
integer_there (Text t) typed present = absurd (let e = typed in cc)
integer_there (Blob b) typed present = absurd (let e = typed in cc)

pub equal_itself : (v : Value) → is_null v ≡ false → equal Binary v v ≡ true
unfolding binary
equal_itself v present = rw (present, tied_itself value_cmp_total v) refl

-- ---- a row of a STRICT table without NULL has its columns, and no more

abbrev pub cells_from : ℕ → ℕ → Row → Row
cells_from zero place r = []
cells_from (suc n) place r = column r place ∷ cells_from n (place + 1) r

pub past_end : (n : ℕ) (r : Row) → drop n r ≡ [] → column r n ≡ Null
past_end zero [] e = refl
past_end zero (v ∷ r) e = absurd (let no = ap length e in omega (arith, no))
past_end (suc n) [] e = refl
past_end (suc n) (v ∷ r) e = past_end n r e

pub next_is : (n : ℕ) (r : Row) (v : Value) (vs : Row) → drop n r ≡ v ∷ vs → (column r n ≡ v) × (drop (suc n) r ≡ vs)
next_is zero [] v vs e = absurd (let no = ap length e in omega (arith, no))
next_is zero (w ∷ r) v vs e = (let same : w ≡ v = cc in same, let rest : r ≡ vs = cc in rest)
next_is (suc n) [] v vs e = absurd (let no = ap length e in omega (arith, no))
next_is (suc n) (w ∷ r) v vs e = next_is n r v vs e

pub no_null : (at : ℕ) (c : Column) (v : Value) → c.not_null ≡ true → v ≡ Null → (is_key None at || not c.not_null || not (is_null v)) ≡ true → ⊥
no_null at c v required none present = true≢false (sym (rw (required, none) at present))

pub cells_are : (columns : List Column) (at : ℕ) (r vs : Row) → AllByRecursion (λ c. c.not_null ≡ true) columns → drop (at + 1) r ≡ vs → are_typed None at columns vs ≡ true → are_present None at columns r ≡ true
    → vs ≡ cells_from (length columns) (at + 1) r
cells_are [] at r [] required is typed present = refl
cells_are [] at r (v ∷ vs) required is typed present = absurd (true≢false (sym typed))
cells_are (c ∷ columns) at r [] required is typed present = absurd (no_null at c (column r (at + 1)) required.0 (past_end (at + 1) r is) (and_parts _ _ present).0)
cells_are (c ∷ columns) at r (v ∷ vs) required is typed present =
    let next = next_is (at + 1) r v vs is in
    let after : drop (at + 1 + 1) r ≡ vs = subst (λ n. drop n r ≡ vs) (let more : suc (at + 1) ≡ at + 1 + 1 = omega arith in more) next.1 in
    ap (λ w. w ∷ vs) (sym next.0) ∙ ap (λ ws. column r (at + 1) ∷ ws) (cells_are columns (at + 1) r vs required.1 after (and_parts _ _ typed).1 (and_parts _ _ present).1)

-- ---- columns, one by one

-- from this place on the row has these values
abbrev pub EachIs : ℕ → Row → Row → Type 0
EachIs place [] cells = Unit {0}
EachIs place (v ∷ vs) cells = (column cells place ≡ v) × EachIs (place + 1) vs cells

pub each_is : (vs : Row) (place : ℕ) (cells : Row) → EachIs place vs cells → cells_from (length vs) place cells ≡ vs
each_is [] place cells are = refl
each_is (v ∷ vs) place cells are = ap (λ w. w ∷ cells_from (length vs) (place + 1) cells) are.0 ∙ ap (λ ws. v ∷ ws) (each_is vs (place + 1) cells are.1)

pub each_both : (vs ws : Row) (place : ℕ) (cells : Row) → EachIs place vs cells → EachIs (place + length vs) ws cells → EachIs place (vs ++ ws) cells
each_both [] ws place cells are more = subst (λ p. EachIs p ws cells) (let none : place + 0 ≡ place = omega arith in none) more
each_both (v ∷ vs) ws place cells are more =
    (are.0, each_both vs ws (place + 1) cells are.1 (subst (λ p. EachIs p ws cells) (let same : place + suc (length vs) ≡ place + 1 + length vs = omega arith in same) more))

pub each_front : (vs ws : Row) (place : ℕ) (cells : Row) → EachIs place (vs ++ ws) cells → EachIs place vs cells
each_front [] ws place cells are = tt
each_front (v ∷ vs) ws place cells are = (are.0, each_front vs ws (place + 1) cells are.1)

-- what columns from one place on show
pub each_shown : (vs : Row) (place from : ℕ) (row cells : Row) → drop place row ≡ cells_from (length vs) from cells → EachIs place vs row → EachIs from vs cells
each_shown [] place from row cells shown are = tt
each_shown (v ∷ vs) place from row cells shown are =
    let next = next_is place row (column cells from) (cells_from (length vs) (from + 1) cells) shown in
    let after : drop (place + 1) row ≡ cells_from (length vs) (from + 1) cells = subst (λ n. drop n row ≡ cells_from (length vs) (from + 1) cells) (let more : suc place ≡ place + 1 = omega arith in more) next.1 in
    (sym next.0 ∙ are.0, each_shown vs (place + 1) (from + 1) row cells after are.1)

-- ---- a row and the row after its first column

pub column_behind : (r : Row) (place : ℕ) → column (drop 1 r) place ≡ column r (place + 1)
column_behind [] place = refl
column_behind (v ∷ r) place = ap (column (v ∷ r)) (let more : suc place ≡ place + 1 = omega arith in more)

pub each_behind : (vs : Row) (place : ℕ) (r : Row) → EachIs (place + 1) vs r → EachIs place vs (drop 1 r)
each_behind [] place r are = tt
each_behind (v ∷ vs) place r are = (column_behind r place ∙ are.0, each_behind vs (place + 1) r are.1)

pub each_before : (vs : Row) (place : ℕ) (r : Row) → EachIs place vs (drop 1 r) → EachIs (place + 1) vs r
each_before [] place r are = tt
each_before (v ∷ vs) place r are = (sym (column_behind r place) ∙ are.0, each_before vs (place + 1) r are.1)

pub cells_behind : (n place : ℕ) (r : Row) → cells_from n (place + 1) r ≡ cells_from n place (drop 1 r)
cells_behind zero place r = refl
cells_behind (suc n) place r = ap (λ v. v ∷ cells_from n (place + 1 + 1) r) (sym (column_behind r place)) ∙ ap (λ vs. column (drop 1 r) place ∷ vs) (cells_behind n (place + 1) r)

-- ---- values that no other value of their column equals

abbrev pub IsExact : Column → Value → Type 0
IsExact c v = (w : Value) → suits c w ≡ true → equal Binary w v ≡ true → w ≡ v

abbrev pub AreExact : List Column → Row → Type 0
AreExact columns [] = Unit {0}
AreExact [] (v ∷ vs) = ⊥
AreExact (c ∷ columns) (v ∷ vs) = IsExact c v × AreExact columns vs

pub exact_front : (columns : List Column) (vs ws : Row) → AreExact columns (vs ++ ws) → AreExact columns vs
exact_front columns [] ws exact = tt
exact_front [] (v ∷ vs) ws exact = exact
exact_front (c ∷ columns) (v ∷ vs) ws exact = (exact.0, exact_front columns vs ws exact.1)

-- ---- each column has a value of its kind

pub value_there : (columns : List Column) (at n : ℕ) (c : Column) (r : Row) → slice_get columns n ≡ Some c → c.not_null ≡ true → are_typed None at columns (cells_from (length columns) (at + 1) r) ≡ true
    → are_present None at columns r ≡ true → (suits c (column r (at + 1 + n)) ≡ true) × (column r (at + 1 + n) ≢ Null)
value_there [] at n c r is required typed present = absurd (let none = is in cc)
value_there (d ∷ columns) at zero c r is required typed present =
    let same : d ≡ c = cc in
    let here : at + 1 ≡ at + 1 + 0 = omega arith in
    subst (λ p. (suits c (column r p) ≡ true) × (column r p ≢ Null)) here (
      subst (λ e. suits e (column r (at + 1)) ≡ true) same (and_parts _ _ typed).0,
      λ none. no_null at d (column r (at + 1)) (ap (λ (e : Column). e.not_null) same ∙ required) none (and_parts _ _ present).0,
    )
value_there (d ∷ columns) at (suc n) c r is required typed present =
    let there : at + 1 + 1 + n ≡ at + 1 + suc n = omega arith in
    subst (λ p. (suits c (column r p) ≡ true) × (column r p ≢ Null)) there (value_there columns (at + 1) n c r is required (and_parts _ _ typed).1 (and_parts _ _ present).1)
