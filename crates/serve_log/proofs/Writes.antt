-- Lemmas on what was written of the log's lines, and what still waits.
use Rattle.std.proofs.Common.{◌≡◌, ℕ, false, not, ◌==◌, length, List, [], ◌∷◌, ◌++◌, drop, take, ap, append_assoc, append-nil, inl, inr, refl, arith, ◌∙◌}
use Rattle.std.proofs.lemmas.Bool.Decides.{nat_tests}
use Rattle.std.proofs.lemmas.List.{take-append-drop}
use Rattle.serve_log.specs.Books.{Takes}

-- what went, and what waits on behind it, are what waited
pub none_lost : (written waiting written2 waiting2 : List ℕ) (count : ℕ) → written2 ≡ written ++ take count waiting → waiting2 ≡ drop count waiting → written2 ++ waiting2 ≡ written ++ waiting
none_lost written waiting written2 waiting2 count went rest =
    ap (λ x. x ++ waiting2) went ∙ ap (λ x. (written ++ take count waiting) ++ x) rest ∙ append_assoc written (take count waiting) (drop count waiting) ∙ ap (λ x. written ++ x) (take-append-drop count waiting)

-- ---- one line

pub none_drafted : (drafts : List ℕ) → not (length drafts == 0) ≡ false → drafts ≡ []
none_drafted [] is = refl
none_drafted (byte ∷ drafts) is = absurd (grind (arith, nat_tests))

-- a draft that is settled at once
pub noted : (missed missed1 missed2 : ℕ) (logged logged1 logged2 drafts drafts1 line : List ℕ) → drafts ≡ [] → Takes missed missed1 drafts drafts1 line → logged1 ≡ logged → logged2 ≡ logged1 ++ drafts1 → missed2 ≡ missed1 → Takes missed missed2 logged logged2 line
noted missed missed1 missed2 logged logged1 logged2 drafts drafts1 line none (inl is) same kept counts =
    inl (counts ∙ is.0, kept ∙ ap (λ x. x ++ drafts1) same ∙ ap (λ x. logged ++ x) (is.1 ∙ ap (λ x. x ++ line) none))
noted missed missed1 missed2 logged logged1 logged2 drafts drafts1 line none (inr is) same kept counts =
    inr (counts ∙ is.0, kept ∙ ap (λ x. x ++ drafts1) same ∙ ap (λ x. logged ++ x) (is.1 ∙ none) ∙ append-nil logged)
