-- The lines of an input, as it was cut at its line feeds.
use Rattle.std.proofs.Common.{◌≡◌, ◌∙◌, ◌==◌, ℕ, ◌+◌, ◌<◌, Bool, List, [], ◌∷◌, ◌++◌, length, map, Option, Some, None, Bor, refl, sym, ap, subst, arith, append_assoc, inl, inr}
use Rattle.std.proofs.lemmas.Iterator.{YieldsList}
use Rattle.std.proofs.lemmas.Iterator.Consumers.{YieldsList-end}
use Rattle.std.specs.Iterator.{Yields}
use Rattle.std.proofs.lemmas.List.Splits.{join_with_byte-slice_split, length-slice_split}
use Rattle.std.specs.List.{AllZip, enumerate_from, join_with_byte, slice_split}
use Rattle.std.specs.Prelude.{MatchOption, unwrap_or}
use Rattle.input_lines.specs.Saying.{AreTexts, ended_lines}
use Rattle.input_lines.specs.declared.line.Line.{Line}

abbrev pub is_feed : ℕ → Bool
is_feed b = b == 10

-- the texts between the line feeds of a text
abbrev pub texts_of : List ℕ → List (List ℕ)
texts_of text = slice_split is_feed text

ended_lines-join : (texts : List (List ℕ)) → 0 < length texts → ended_lines texts ≡ join_with_byte 10 texts ++ 10 ∷ []
ended_lines-join [] some = absurd (omega arith)
ended_lines-join (text ∷ []) some = refl
ended_lines-join (text ∷ next ∷ texts) some =
    ap (λ l. text ++ 10 ∷ l) (ended_lines-join (next ∷ texts) (omega arith)) ∙ sym (append_assoc text (10 ∷ join_with_byte 10 (next ∷ texts)) (10 ∷ []))

ended_lines-texts_of : (text : List ℕ) → ended_lines (texts_of text) ≡ text ++ 10 ∷ []
ended_lines-texts_of text =
    ended_lines-join (texts_of text) (omega (arith, length-slice_split is_feed text)) ∙ ap (λ l. l ++ 10 ∷ []) (join_with_byte-slice_split 10 text)

-- a line feed that ends an input is taken off before it is cut
pub AreTexts-of : (input : Bor (List ℕ)) (front : Option (Bor (List ℕ))) (None' : Type 0) → MatchOption front None' (λ x. input.now ≡ x.now ++ 10 ∷ []) → AreTexts input.now (texts_of (unwrap_or front input).now)
AreTexts-of input None none h = inr (sym (ended_lines-texts_of input.now))
AreTexts-of input (Some front) none h = inl (h ∙ sym (ended_lines-texts_of front.now))

-- `YieldsList-end` with the list last, whose parts the items say
pub yielded_whole : {S A B : Type 0} {steps : S → Option A → S → Type 0} {v : A → B} {s : S} {all : List B} (xs : List A) (t : S) (y : Yields steps s xs t) (r : Option A) (u : S) → r ≡ None → steps t r u
    → YieldsList steps v s all → map v xs ≡ all
yielded_whole xs t y r u none step all = (YieldsList-end all xs t y r u none step).0

pub AllZip-more : {A B : Type 0} (R : A → B → Type 0) (xs : List A) (ys : List B) (x : A) (y : B) → AllZip R xs ys → R x y → AllZip R (xs ++ x ∷ []) (ys ++ y ∷ [])
AllZip-more R [] [] x y all more = (more, tt)
AllZip-more R [] (first ∷ ys) x y all more = absurd all
AllZip-more R (first ∷ xs) [] x y all more = absurd all
AllZip-more R (first ∷ xs) (other ∷ ys) x y all more = (all.0, AllZip-more R xs ys x y all.1 more)

-- what holds of each item of a loop, by its number and its text, holds of each text
pub AllZip-texts : (R : List ℕ → Line → Type 0) (items : List (ℕ × Bor (List ℕ))) (texts : List (List ℕ)) (n : ℕ) (lines : List Line) → map (λ item. (item.0, item.1.now)) items ≡ enumerate_from n texts
    → AllZip (λ item. R item.1.now) items lines → AllZip R texts lines
AllZip-texts R [] [] n [] same all = tt
AllZip-texts R [] [] n (line ∷ lines) same all = absurd all
AllZip-texts R [] (text ∷ texts) n lines same all = absurd (cc)
AllZip-texts R (item ∷ items) [] n lines same all = absurd (cc)
AllZip-texts R (item ∷ items) (text ∷ texts) n [] same all = absurd all
AllZip-texts R (item ∷ items) (text ∷ texts) n (line ∷ lines) same all =
    let first : ◌≡◌ {A = ℕ × List ℕ} (item.0, item.1.now) (n, text) = cc in
    (subst (λ t. R t line) (ap (λ p. p.1) first) all.0, AllZip-texts R items texts (n + 1) lines (cc) all.1)
