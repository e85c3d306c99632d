-- Cells have a key exactly where they begin with its values.
use Rattle.std.proofs.Common.{◌≡◌, ◌≢◌, ℕ, ℤ, Bool, true, false, List, [], ◌∷◌, refl}
use Rattle.std.proofs.lemmas.Bool.{and_parts}
use Rattle.sqlite_value.specs.declared.value.Value.TheVariants.{Null, Int, Text}
use Rattle.sqlite_value.specs.Order.{Row}
use Rattle.sqlite_value.specs.Keys.{plain, first_key}
use Rattle.sqlite_schema.specs.Rules.{agree}
use Rattle.rows_tables.proofs.Columns.{text_is, integer_is}
use Rattle.rows_tables.proofs.KeyedRows.{has_values}

one_text : {s t : List ℕ} → Text s ≡ Text t → s ≡ t
one_text e = cc

one_integer : {m n : ℤ} → Int m ≡ Int n → m ≡ n
one_integer e = cc

-- ---- what begins with a text

pub first_met : (places : List ℕ) (name : List ℕ) (rest : Row) (other : List ℕ) (key : Row) → agree plain (1 ∷ places) (Null ∷ Text name ∷ rest) (1 ∷ places) (Null ∷ Text other ∷ key) ≡ true → name ≡ other
unfolding first_key
first_met places name rest other key is = one_text (text_is (Text name) other refl (and_parts _ _ is).0)

-- ---- a text

abbrev pub is_at_text : List ℕ → Row → List ℕ → Bool
is_at_text name rest other = agree plain (1 ∷ []) (Null ∷ Text name ∷ rest) (1 ∷ []) (Null ∷ Text other ∷ [])

pub text_met : (name : List ℕ) (rest : Row) (other : List ℕ) → is_at_text name rest other ≡ true → name ≡ other
unfolding first_key
text_met name rest other is = one_text (text_is (Text name) other refl (and_parts _ _ is).0)

pub text_here : (name : List ℕ) (rest : Row) → is_at_text name rest name ≡ true
text_here name rest = has_values (Text name ∷ []) (Null ∷ Text name ∷ rest) (refl, tt) (refl, tt)

-- ---- a text and a number

abbrev pub is_at_number : List ℕ → ℤ → Row → List ℕ → ℤ → Bool
is_at_number name m rest other n = agree plain (1 ∷ 2 ∷ []) (Null ∷ Text name ∷ Int m ∷ rest) (1 ∷ 2 ∷ []) (Null ∷ Text other ∷ Int n ∷ [])

pub number_met : (name : List ℕ) (m : ℤ) (rest : Row) (other : List ℕ) (n : ℤ) → is_at_number name m rest other n ≡ true → (name ≡ other) × (m ≡ n)
unfolding first_key
number_met name m rest other n is =
    let parts = and_parts _ _ is in
    (one_text (text_is (Text name) other refl parts.0), one_integer (integer_is (Int m) n refl (and_parts _ _ parts.1).0))

pub number_here : (name : List ℕ) (m : ℤ) (rest : Row) → is_at_number name m rest name m ≡ true
number_here name m rest = has_values (Text name ∷ Int m ∷ []) (Null ∷ Text name ∷ Int m ∷ rest) (refl, (refl, tt)) (refl, (refl, tt))

-- ---- a text and two numbers

abbrev pub is_at_place : List ℕ → ℤ → ℤ → Row → List ℕ → ℤ → ℤ → Bool
is_at_place name j m rest other k n = agree plain (1 ∷ 2 ∷ 3 ∷ []) (Null ∷ Text name ∷ Int j ∷ Int m ∷ rest) (1 ∷ 2 ∷ 3 ∷ []) (Null ∷ Text other ∷ Int k ∷ Int n ∷ [])

pub place_met : (name : List ℕ) (j m : ℤ) (rest : Row) (other : List ℕ) (k n : ℤ) → is_at_place name j m rest other k n ≡ true → (name ≡ other) × (j ≡ k) × (m ≡ n)
unfolding first_key
place_met name j m rest other k n is =
    let parts = and_parts _ _ is in
    let numbers = and_parts _ _ parts.1 in
    (one_text (text_is (Text name) other refl parts.0), one_integer (integer_is (Int j) k refl numbers.0), one_integer (integer_is (Int m) n refl (and_parts _ _ numbers.1).0))

pub place_here : (name : List ℕ) (j m : ℤ) (rest : Row) → is_at_place name j m rest name j m ≡ true
place_here name j m rest = has_values (Text name ∷ Int j ∷ Int m ∷ []) (Null ∷ Text name ∷ Int j ∷ Int m ∷ rest) (refl, (refl, (refl, tt))) (refl, (refl, (refl, tt)))

-- ---- a key that begins with a text and a number

abbrev pub begins_so : List ℕ → ℤ → Row → List ℕ → ℤ → Bool
begins_so name j rest other k = agree plain (1 ∷ 2 ∷ []) (Null ∷ Text name ∷ Int j ∷ rest) (1 ∷ 2 ∷ []) (Null ∷ Text other ∷ Int k ∷ [])

pub start_met : (name : List ℕ) (j : ℤ) (rest : Row) (other : List ℕ) (k : ℤ) → begins_so name j rest other k ≡ true → (name ≡ other) × (j ≡ k)
unfolding first_key
start_met name j rest other k is =
    let parts = and_parts _ _ is in
    (one_text (text_is (Text name) other refl parts.0), one_integer (integer_is (Int j) k refl (and_parts _ _ parts.1).0))

pub start_here : (name : List ℕ) (j : ℤ) (rest : Row) → begins_so name j rest name j ≡ true
start_here name j rest = has_values (Text name ∷ Int j ∷ []) (Null ∷ Text name ∷ Int j ∷ rest) (refl, (refl, tt)) (refl, (refl, tt))

-- what is met only by the same is not met by another
pub unmet : {A : Type 0} {a b : A} (test : Bool) → (test ≡ true → a ≡ b) → a ≢ b → test ≡ false
unmet true met apart = absurd (apart (met refl))
unmet false met apart = refl
