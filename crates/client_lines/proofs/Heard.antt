-- Lines that were heard, one after another.
use Rattle.std.proofs.Common.{ℕ, ◌+◌, List, [], ◌∷◌, ◌++◌, codes, refl, ap, sym, subst, ◌∙◌, length-append, append-nil}
use Rattle.std.specs.List.{flat_map}
use Rattle.std.specs.Io.KnownBytes.{Consumes}
use Rattle.std.proofs.KnownBytes.{Consumes-nil, Consumes-trans}
use Rattle.std.proofs.lemmas.Grind.{flat_map-append}
use Rattle.std.proofs.lemmas.List.Elements.{All-append, All-cons, All-nil}
use Rattle.std.specs.Prelude.{◌≡◌, Some}
use Rattle.client_lines.specs.declared.answer.Answer.TheVariants.{Lines}
use Rattle.client_lines.specs.Answers.{answer_said}
use Rattle.client_lines.specs.Asking.{HearsLines, HearsList}
use Rattle.client_lines.specs.Replies.{IsText, Known, whole_line}

pub HearsLines-none : (h : Known) → HearsLines h h 0 []
HearsLines-none h = record { number = refl; each_text = All-nil IsText; whole = Consumes-nil h }

pub HearsLines-more : (ha hb hc : Known) (count : ℕ) (lines : List (List ℕ)) (line : List ℕ)
    → HearsLines ha hb count lines → IsText line → Consumes hb hc (line ++ codes "\n")
    → HearsLines ha hc (count + 1) (lines ++ line ∷ [])
HearsLines-more ha hb hc count lines line done text heard = record {
  number = length-append lines (line ∷ []) ∙ ap (λ n. n + 1) done.number;
  each_text = All-append IsText lines (line ∷ []) done.each_text
      (All-cons IsText line [] text (All-nil IsText));
  whole = subst (Consumes ha hc)
      (sym (flat_map-append whole_line lines (line ∷ [])
      ∙ ap (λ l. flat_map whole_line lines ++ l) (append-nil (whole_line line))))
      (Consumes-trans ha hb hc (flat_map whole_line lines) (whole_line line) done.whole heard);
}

-- the first line of a list, and so many lines
pub HearsList-of : (ha hb hc : Known) (text : List ℕ) (count : ℕ) (lines : List (List ℕ))
    → answer_said text ≡ Some (Lines count) → Consumes ha hb (text ++ codes "\n")
    → HearsLines hb hc count lines → HearsList ha hc lines
HearsList-of ha hb hc text count lines said first done = record {
  first = text;
  says = said ∙ ap (λ n. Some (Lines n)) (sym done.number);
  each_text = done.each_text;
  whole = Consumes-trans ha hb hc (text ++ codes "\n") (flat_map whole_line lines) first done.whole;
}
