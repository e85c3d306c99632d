-- How many lines follow, as a word says it. A number of pages is in decimal too, so its lemma tells
-- what `is_decimal` says.
use Rattle.std.proofs.Common.{◌≡◌, ◌≤◌, ◌&&◌, nat_le, ℕ, List, Option, Some, None, SomeIff, true, arith, ap, sym, ◌∙◌, refl, inl, inr}
use Rattle.std.specs.Str.Parse.{digits_value}
use Rattle.std.proofs.lemmas.Bool.{and_parts, cases_Bool}
use Rattle.std.proofs.lemmas.Bool.Decides.{nat_tests}
use Rattle.input_fields.specs.Fields.{IsDecimal}
use Rattle.input_fields.specs.GrantLines.{is_decimal, pages_said}
use Rattle.input_fields.proofs.LineLemmas.{pages_is}
use Rattle.client_lines.specs.Answers.{line_count_said}

some-none : {A : Type 0} (value : A) → None ≡ Some value → ⊥
some-none value same = cc

-- a number of pages is in decimal
said-decimal : (text : List ℕ) (pages : ℕ) → Some pages ≡ pages_said text → is_decimal text ≡ true
said-decimal text pages said = elim (cases_Bool (is_decimal text && nat_le (digits_value 10 text) 1000000000)) [
  | inl holds ↦ (and_parts (is_decimal text) (nat_le (digits_value 10 text) 1000000000) holds).0
  | inr fails ↦ absurd (some-none pages (sym (rw fails at said)))
]

counts : (text : List ℕ) → is_decimal text ≡ true → digits_value 10 text ≤ 999999
    → line_count_said text ≡ Some (digits_value 10 text)
counts text decimal low =
    let at : nat_le (digits_value 10 text) 999999 ≡ true = grind (arith, nat_tests) in
    rw (decimal, at) refl

pages : (text : List ℕ) → is_decimal text ≡ true → digits_value 10 text ≤ 999999
    → pages_said text ≡ Some (digits_value 10 text)
pages text decimal low =
    let at : nat_le (digits_value 10 text) 1000000000 ≡ true = grind (arith, nat_tests) in
    rw (decimal, at) refl

no_count : (text : List ℕ) → (is_decimal text ≡ true → digits_value 10 text ≤ 999999 → ⊥)
    → line_count_said text ≡ None
no_count text never = elim (cases_Bool (is_decimal text && nat_le (digits_value 10 text) 999999)) [
  | inl holds ↦
      let parts = and_parts (is_decimal text) (nat_le (digits_value 10 text) 999999) holds in
      absurd (never parts.0 (let low = parts.1 in grind (arith, nat_tests)))
  | inr fails ↦ rw fails refl
]

pub line_count_is : (said : Option ℕ) (text : List ℕ)
    → SomeIff said (IsDecimal text × (0 ≤ digits_value 10 text) × (digits_value 10 text ≤ 999999))
    (digits_value 10 text) → said ≡ line_count_said text
line_count_is None text never = sym (no_count text (λ decimal low.
    some-none (digits_value 10 text)
    (pages_is None text (λ is. never (is.0, is.1, low)) ∙ pages text decimal low)))
line_count_is (Some count) text is =
    let most : digits_value 10 text ≤ 1000000000 = omega (arith, is.0.2) in
    let read = pages_is (Some (digits_value 10 text)) text ((is.0.0, is.0.1, most), refl) in
    ap (λ (n : ℕ). Some n) is.1 ∙ sym (counts text (said-decimal text (digits_value 10 text) read) is.0.2)
