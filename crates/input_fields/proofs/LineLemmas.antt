-- What a record says, by its fields and by its number.
use Rattle.std.proofs.Common.{◌≡◌, ◌∙◌, ◌==◌, ◌&&◌, ◌||◌, not, nat_lt, nat_le, ℕ, zero, suc, ◌+◌, ◌<◌, ◌≤◌, Bool, true, false, List, [], ◌∷◌, ◌++◌, length, slice_index, Option, Some, None, SomeIff, sym, ap, refl, arith, inl, inr}
use Rattle.std.specs.Prelude.{All, unwrap_or}
use Rattle.std.specs.Char.{digit_value, is_ascii_digit}
use Rattle.std.specs.List.{list_all}
use Rattle.std.specs.Str.Parse.{AllDigits, digits_value}
use Rattle.std.proofs.lemmas.Bool.{and_parts, cases_Bool}
use Rattle.std.proofs.lemmas.Bool.Decides.{nat_tests}
use Rattle.std.proofs.lemmas.Str.Parse.{digit_from_value}
use Rattle.csv.proofs.RecordFacts.{field-there}
use Rattle.csv.specs.Records.{field_at}
use Rattle.input_fields.specs.Fields.{IsDecimal, month_said}
use Rattle.input_fields.specs.GrantLines.{good_line, grant_line, is_decimal, lines_from, account_said, pages_said}
use Rattle.input_fields.specs.declared.grant_line.GrantLine.TheVariants.{Bad}

digit_from : (c : ℕ) → is_ascii_digit c ≡ true → digit_value c < 10
digit_from c digit = grind (arith, nat_tests)

digit_to : (c : ℕ) → digit_value c < 10 → is_ascii_digit c ≡ true
digit_to c low = let range = digit_from_value c low in grind (arith, nat_tests)

digits_from : (ds : List ℕ) → list_all is_ascii_digit ds ≡ true → AllDigits 10 ds
digits_from [] all = tt
digits_from (c ∷ cs) all =
    let parts = and_parts (is_ascii_digit c) (list_all is_ascii_digit cs) all in
    (digit_from c parts.0, digits_from cs parts.1)

digits_to : (ds : List ℕ) → AllDigits 10 ds → list_all is_ascii_digit ds ≡ true
digits_to [] all = refl
digits_to (c ∷ cs) all = rw (digit_to c all.0, digits_to cs all.1) refl

-- a number in decimal, as a fact and as a test
decimal_from : (text : List ℕ) → is_decimal text ≡ true → IsDecimal text
decimal_from text said =
    let parts = and_parts (nat_lt 0 (length text) && list_all is_ascii_digit text) (length text == 1 || not (slice_index text 0 == 48)) said in
    let first = and_parts (nat_lt 0 (length text)) (list_all is_ascii_digit text) parts.0 in
    let last = parts.1 in
    record { numeral = (grind (arith, nat_tests), digits_from text first.1); no_leading_zero = λ zero. grind (arith, nat_tests) }

leading : (b z : Bool) → (z ≡ true → b ≡ true) → (b || not z) ≡ true
leading true z h = refl
leading false true h = h refl
leading false false h = refl

decimal_to : (text : List ℕ) → IsDecimal text → is_decimal text ≡ true
decimal_to text said =
    let some : nat_lt 0 (length text) ≡ true = let h = said.numeral.0 in grind (arith, nat_tests) in
    let short : (length text == 1 || not (slice_index text 0 == 48)) ≡ true = leading (length text == 1) (slice_index text 0 == 48) (λ zero. let one = said.no_leading_zero (grind (arith, nat_tests)) in grind (arith, nat_tests)) in
    rw (some, digits_to text said.numeral.1, short) refl

-- pages are a number in decimal that is not too large
pages_of : (text : List ℕ) → is_decimal text ≡ true → digits_value 10 text ≤ 1000000000 → pages_said text ≡ Some (digits_value 10 text)
pages_of text decimal low = let at : nat_le (digits_value 10 text) 1000000000 ≡ true = grind (arith, nat_tests) in rw (decimal, at) refl

no_pages : (text : List ℕ) → (is_decimal text ≡ true → digits_value 10 text ≤ 1000000000 → ⊥) → pages_said text ≡ None
no_pages text never = elim (cases_Bool (is_decimal text && nat_le (digits_value 10 text) 1000000000)) [
  | inl said ↦ let parts = and_parts (is_decimal text) (nat_le (digits_value 10 text) 1000000000) said in absurd (never parts.0 (let low = parts.1 in grind (arith, nat_tests)))
  | inr said ↦ rw said refl
]

pub pages_is : (said : Option ℕ) (text : List ℕ) → SomeIff said (IsDecimal text × (0 ≤ digits_value 10 text) × (digits_value 10 text ≤ 1000000000)) (digits_value 10 text) → said ≡ pages_said text
pages_is None text never = sym (no_pages text (λ decimal low. never (decimal_from text decimal, grind arith, low)))
pages_is (Some pages) text is = ap (λ (n : ℕ). Some n) is.1 ∙ sym (pages_of text (decimal_to text is.0.0) is.0.2)

some-same : {A : Type 0} (a b : A) → Some a ≡ Some b → a ≡ b
some-same a b same = cc same

-- a record of three fields, and one of fewer or more
pub grant_line-three : (number : ℕ) (fields : List (List ℕ)) (account month pages : List ℕ) → length fields ≡ 3
    → Some account ≡ field_at fields 0 → Some month ≡ field_at fields 1 → Some pages ≡ field_at fields 2
    → grant_line number fields ≡ unwrap_or (good_line (account_said account) (month_said month) (pages_said pages)) (Bad number)
unfolding field_at
grant_line-three number [] account month pages three a m p = absurd (grind arith)
grant_line-three number (x ∷ []) account month pages three a m p = absurd (grind arith)
grant_line-three number (x ∷ y ∷ []) account month pages three a m p = absurd (grind arith)
grant_line-three number (x ∷ y ∷ z ∷ []) account month pages three a m p = rw (some-same account x a, some-same month y m, some-same pages z p) refl
grant_line-three number (x ∷ y ∷ z ∷ w ∷ rest) account month pages three a m p = absurd (grind arith)

pub has-field : (fields : List (List ℕ)) (i : ℕ) → length fields ≡ 3 → i < 3 → None ≡ field_at fields i → ⊥
has-field fields i three low none = field-there fields i (omega arith) (sym none)

-- one record more
pub lines_from-append : (number : ℕ) (rows : List (List (List ℕ))) (row : List (List ℕ)) → lines_from number (rows ++ row ∷ []) ≡ lines_from number rows ++ grant_line (number + length rows) row ∷ []
lines_from-append number [] row = ap (λ n. grant_line n row ∷ []) (omega arith)
lines_from-append number (first ∷ rest) row =
    let same : number + 1 + length rest ≡ number + length (first ∷ rest) = omega arith in
    ap (λ lines. grant_line number first ∷ lines) (lines_from-append (number + 1) rest row ∙ ap (λ n. lines_from (number + 1) rest ++ grant_line n row ∷ []) same)

pub length-lines_from : (number : ℕ) (rows : List (List (List ℕ))) → length (lines_from number rows) ≡ length rows
length-lines_from number [] = refl
length-lines_from number (first ∷ rest) = ap suc (length-lines_from (number + 1) rest)

-- of a list of one
pub All-one : {X : Type 0} (P : X → Type 0) (x : X) → P x → All P (x ∷ [])
All-one P x is zero d low = is
All-one P x is (suc k) d low = absurd (omega arith)
