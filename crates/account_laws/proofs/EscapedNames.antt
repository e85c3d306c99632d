-- Which bytes of a name are escaped, and how.
use Rattle.std.proofs.Common.{◌≡◌, ℕ, zero, suc, ◌<◌, ◌≤◌, ◌⊎◌, ◌/◌, ◌%◌, Bool, true, false, cond, not, ◌&&◌, List, [], ◌∷◌, refl, sym, ap, ◌∙◌, arith, inl, inr}
use Rattle.std.specs.List.{flat_map}
use Rattle.std.proofs.lemmas.Bool.{and_parts, cases_lt}
use Rattle.std.proofs.lemmas.Bool.Decides.{nat_tests}
use Rattle.percent_encoding.specs.AsciiSet.{should_percent_encode}
use Rattle.percent_encoding.specs.Percent.{encode_byte, percent_encode, percent_encode_byte}
use Rattle.account_laws.specs.JobLinesTold.{escaped_byte, hexadecimal_digit, is_plain}
use Rattle.account_questions.specs.JobLines.{escaped}

-- ---- all bytes below a bound

all_below : ℕ → (ℕ → Bool) → Bool
all_below zero test = true
all_below (suc n) test = test n && all_below n test

below : (n : ℕ) (test : ℕ → Bool) → all_below n test ≡ true → (b : ℕ) → b < n → test b ≡ true
unfolding all_below
below zero test all b less = absurd (omega arith)
below (suc n) test all b less =
    let both = and_parts (test n) (all_below n test) all in
    elim (cases_lt b n) [
      | inl lower ↦ below n test both.1 b lower
      | inr least ↦ let same : b ≡ n = omega arith in ap test same ∙ both.0
    ]

-- ---- which

same_bool : Bool → Bool → Bool
same_bool true b = b
same_bool false b = not b

is_same : (a b : Bool) → same_bool a b ≡ true → a ≡ b
unfolding same_bool
is_same true true is = refl
is_same true false is = sym is
is_same false true is = is
is_same false false is = refl

agrees : ℕ → Bool
agrees b = same_bool (should_percent_encode escaped b) (not (is_plain b))

all_agree : all_below 128 agrees ≡ true
unfolding all_below agrees same_bool should_percent_encode
all_agree = refl

beyond : (b : ℕ) → 128 ≤ b → should_percent_encode escaped b ≡ not (is_plain b)
unfolding should_percent_encode
beyond b far = grind (arith, nat_tests)

which : (b : ℕ) → should_percent_encode escaped b ≡ not (is_plain b)
unfolding agrees
which b = by (cases_lt b 128)
  where
    by : (b < 128) ⊎ (128 ≤ b) → should_percent_encode escaped b ≡ not (is_plain b)
    by (inl lower) = is_same (should_percent_encode escaped b) (not (is_plain b)) (below 128 agrees all_agree b lower)
    by (inr far) = beyond b far

-- ---- how

one_byte : (b : ℕ) → encode_byte escaped b ≡ escaped_byte b
unfolding percent_encode_byte
one_byte b =
    ap (λ (special : Bool). cond special (percent_encode_byte b) (b ∷ [])) (which b)
    ∙ elim (is_plain b) as (λ (plain : Bool). cond (not plain) (percent_encode_byte b) (b ∷ []) ≡ cond plain (b ∷ []) (37 ∷ hexadecimal_digit (b / 16 % 16) ∷ hexadecimal_digit (b % 16) ∷ [])) [ true ↦ refl | false ↦ refl ]

pub name_escaped : (name : List ℕ) → percent_encode escaped name ≡ flat_map escaped_byte name
unfolding percent_encode
name_escaped name = λ i. flat_map (λ b. one_byte b i) name
