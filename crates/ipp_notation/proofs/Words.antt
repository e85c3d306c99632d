-- Where the first and the last space of a line stand.
use Rattle.std.proofs.Common.{◌≡◌, inl, inr, ℕ, suc, ◌+◌, ◌-◌, ◌<◌, ◌≤◌, List, [], ◌∷◌, ◌++◌, codes, Option, Some, None, Bool, not, is_some, IsTrue, min, length, take, drop, slice_index, refl, sym, ap, ◌∙◌, subst, arith, rules, true, false, length-append}
use Rattle.std.proofs.Math.Seq.{get_or-append_seam, take-append_seam, drop-append_seam}
use Rattle.std.proofs.lemmas.Bool.{eqb-true, eq-eqb, cases_lt, true≢false}
use Rattle.std.proofs.lemmas.List.{get_or_append_left, get_or-append-add, get_or-take, take-append-drop, length-take, append_cancel_left}
use Rattle.std.proofs.lemmas.Grind.{common_steps}
use Rattle.memchr.specs.Find.{IsFirstByte, IsLastByte, is_byte}
use Rattle.ipp_notation.specs.Lines.{IsWord, IsOfScript, AreBefore}

pub word_where_none : (xs : List ℕ) → IsFirstByte (is_byte 32) xs None → IsWord xs
word_where_none xs none k low is = none k (omega arith) low (eq-eqb (slice_index xs k) 32 is)

pub none_where_word : (xs : List ℕ) (s : ℕ) → IsWord xs → IsFirstByte (is_byte 32) xs (Some s) → ⊥
none_where_word xs s word is = word s is.0.high (eqb-true (slice_index xs s) 32 is.1)

-- ---- a space between two lists

pub space_between : (w d : List ℕ) → slice_index (w ++ 32 ∷ d) (length w) ≡ 32
space_between w d = get_or-append_seam w 32 d 0

pub place_between : (w d : List ℕ) → length w < length (w ++ 32 ∷ d)
place_between w d = grind (arith, common_steps)

at_behind : (w d : List ℕ) (j : ℕ) → slice_index (w ++ 32 ∷ d) (length w + suc j) ≡ slice_index d j
at_behind w d j = get_or-append-add w (32 ∷ d) (suc j) 0

at_before : (w d : List ℕ) (k : ℕ) → k < length w → slice_index (w ++ 32 ∷ d) k ≡ slice_index w k
at_before w d k low = get_or_append_left w (32 ∷ d) 0 k low

-- after it stand no further spaces
pub none_behind : (w d : List ℕ) (k : ℕ) → IsWord d → k < length (w ++ 32 ∷ d) → slice_index (w ++ 32 ∷ d) k ≡ 32 → k ≤ length w
none_behind w d k word low at = elim (cases_lt (length w) k) [
  | inr is ↦ is
  | inl high ↦
      let j = k - suc (length w) in
      let place : k ≡ length w + suc j = omega arith in
      let all : length (w ++ 32 ∷ d) ≡ length w + suc (length d) = length-append w (32 ∷ d) in
      let within : j < length d = omega arith in
      absurd (word j within (sym (at_behind w d j) ∙ (ap (λ i. slice_index (w ++ 32 ∷ d) i) (sym place) ∙ at)))
]

-- before it stand none
pub none_before : (w d : List ℕ) (k : ℕ) → IsWord w → slice_index (w ++ 32 ∷ d) k ≡ 32 → length w ≤ k
none_before w d k word at = elim (cases_lt k (length w)) [
  | inr is ↦ is
  | inl low ↦ absurd (word k low (sym (at_before w d k low) ∙ at))
]

last_in : (w d : List ℕ) (s : ℕ) → IsWord d → IsLastByte (is_byte 32) (w ++ 32 ∷ d) (Some s) → s ≡ length w
last_in w d s word is =
    let most : s ≤ length w = none_behind w d s word is.0.high (eqb-true (slice_index (w ++ 32 ∷ d) s) 32 is.1) in
    elim (cases_lt s (length w)) [
      | inr least ↦ omega arith
      | inl low ↦ absurd (is.0.after (length w) (omega arith) (place_between w d) (eq-eqb (slice_index (w ++ 32 ∷ d) (length w)) 32 (space_between w d)))
    ]

pub last_space : (w d line : List ℕ) (s : ℕ) → AreBefore w d line → IsLastByte (is_byte 32) line (Some s) → s ≡ length w
last_space w d line s are is = last_in w d s are.last (subst (λ (xs : List ℕ). IsLastByte (is_byte 32) xs (Some s)) are.whole is)

first_in : (w d : List ℕ) (s : ℕ) → IsWord w → IsFirstByte (is_byte 32) (w ++ 32 ∷ d) (Some s) → s ≡ length w
first_in w d s word is =
    let least : length w ≤ s = none_before w d s word (eqb-true (slice_index (w ++ 32 ∷ d) s) 32 is.1) in
    elim (cases_lt (length w) s) [
      | inr most ↦ omega arith
      | inl high ↦ absurd (is.0.before (length w) (omega arith) high (eq-eqb (slice_index (w ++ 32 ∷ d) (length w)) 32 (space_between w d)))
    ]

pub first_space : (w d line : List ℕ) (s : ℕ) → line ≡ w ++ 32 ∷ d → IsWord w → IsFirstByte (is_byte 32) line (Some s) → s ≡ length w
first_space w d line s whole word is = first_in w d s word (subst (λ (xs : List ℕ). IsFirstByte (is_byte 32) xs (Some s)) whole is)

-- ---- the words before the last space, and what stands after it

pub words_are : (w d line : List ℕ) → AreBefore w d line → w ≡ take (length w) line
words_are w d line are = sym (take-append_seam w (32 ∷ d)) ∙ ap (λ xs. take (length w) xs) (sym are.whole)

drop_one : (w d : List ℕ) → drop (suc (length w)) (w ++ 32 ∷ d) ≡ d
drop_one [] d = refl
drop_one (x ∷ w) d = drop_one w d

pub last_is : (w d line : List ℕ) → AreBefore w d line → d ≡ drop (suc (length w)) line
last_is w d line are = sym (drop_one w d) ∙ ap (λ xs. drop (suc (length w)) xs) (sym are.whole)

most_of : (w d x e line : List ℕ) → AreBefore w d line → AreBefore x e line → length x ≤ length w
most_of w d x e line one other =
    let both : w ++ 32 ∷ d ≡ x ++ 32 ∷ e = sym one.whole ∙ other.whole in
    let at : slice_index (w ++ 32 ∷ d) (length x) ≡ 32 = ap (λ xs. slice_index xs (length x)) both ∙ space_between x e in
    let low : length x < length (w ++ 32 ∷ d) = subst (λ (xs : List ℕ). length x < length xs) (sym both) (place_between x e) in
    none_behind w d (length x) one.last low at

pub same_last : (w d x e line : List ℕ) → AreBefore w d line → AreBefore x e line → d ≡ e
same_last w d x e line one other =
    let least : length x ≤ length w = most_of w d x e line one other in
    let most : length w ≤ length x = most_of x e w d line other one in
    let same : length w ≡ length x = omega arith in
    last_is w d line one ∙ (ap (λ n. drop (suc n) line) same ∙ sym (last_is x e line other))

-- a line with a space is no word
pub no_word : (w d line : List ℕ) → AreBefore w d line → IsWord line → ⊥
no_word w d line are word =
    let place : length w < length line = subst (λ (xs : List ℕ). length w < length xs) (sym are.whole) (place_between w d) in
    let at : slice_index line (length w) ≡ 32 = ap (λ xs. slice_index xs (length w)) are.whole ∙ space_between w d in
    word (length w) place at

-- ---- three words, the second of which is `ipp`

abbrev behind_moment : List ℕ → List ℕ
behind_moment account = 105 ∷ 112 ∷ 112 ∷ 32 ∷ account

pub script_has_space : (words : List ℕ) → IsOfScript words → IsFirstByte (is_byte 32) words None → ⊥
script_has_space words is none =
    let m = is.moment in
    let d = behind_moment is.account in
    let whole : words ≡ m ++ 32 ∷ d = is.parts in
    let low : length m < length words = subst (λ (xs : List ℕ). length m < length xs) (sym whole) (place_between m d) in
    let at : slice_index words (length m) ≡ 32 = ap (λ xs. slice_index xs (length m)) whole ∙ space_between m d in
    none (length m) (omega arith) low (eq-eqb (slice_index words (length m)) 32 at)

pub script_behind : (words : List ℕ) (s : ℕ) → (is : IsOfScript words) → IsFirstByte (is_byte 32) words (Some s) → drop s words ≡ codes " ipp " ++ is.account
script_behind words s is first =
    let m = is.moment in
    let place : s ≡ length m = first_space m (behind_moment is.account) words s is.parts is.moment_word first in
    ap (λ n. drop n words) place ∙ (ap (λ xs. drop (length m) xs) is.parts ∙ drop-append_seam m (codes " ipp " ++ is.account))

word_before : (words : List ℕ) (s : ℕ) → IsFirstByte (is_byte 32) words (Some s) → IsWord (take s words)
word_before words s first k low at =
    let all : length (take s words) ≡ min s (length words) = length-take s words in
    let before : k < s = omega arith in
    first.0.before k (omega arith) before (eq-eqb (slice_index words k) 32 (sym (get_or-take s words k 0 before) ∙ at))

pub script_of : (words account : List ℕ) (s : ℕ) → IsFirstByte (is_byte 32) words (Some s) → drop s words ≡ codes " ipp " ++ account → IsWord account → IsOfScript words
script_of words account s first behind word = record {
  moment = take s words;
  account = account;
  moment_word = word_before words s first;
  account_word = word;
  parts = sym (take-append-drop s words) ∙ ap (λ xs. take s words ++ xs) behind;
}

pub account_of : (words account : List ℕ) (s : ℕ) → IsFirstByte (is_byte 32) words (Some s) → drop s words ≡ codes " ipp " ++ account → IsOfScript words → IsWord account
account_of words account s first behind is =
    let same : is.account ≡ account = append_cancel_left (codes " ipp ") is.account account (sym (script_behind words s is first) ∙ behind) in
    subst IsWord same is.account_word

-- the answer of a search for a space tells of a word
pub word_told : (xs : List ℕ) (r : Option ℕ) (b : Bool) → IsFirstByte (is_byte 32) xs r → is_some r ≡ not b → (IsTrue b → IsWord xs) × (IsWord xs → IsTrue b)
word_told xs None true first e = (λ yes. word_where_none xs first, λ word. search rules)
word_told xs None false first e = absurd (true≢false (sym e))
word_told xs (Some s) true first e = absurd (true≢false e)
word_told xs (Some s) false first e = (λ yes. absurd (true≢false (sym yes)), λ word. absurd (none_where_word xs s word first))
