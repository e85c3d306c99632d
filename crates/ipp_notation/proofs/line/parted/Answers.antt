use Rattle.std.proofs.Common.{◌∙◌, sym}
use Rattle.std.proofs.lemmas.Bool.{true≢false}
use Rattle.std.proofs.lemmas.Bool.Decides.{Decides-eqb}
use Rattle.std.proofs.lemmas.Slice.Eq.{slice_eq-Decides}
use Rattle.ipp_notation.proofs.Parted.{no_parts}
use Rattle.ipp_notation.proofs.line.parted.Goals as goal

pub returns-else-is_of_script-clause-other : goal.returns-else-is_of_script-clause-other
returns-else-is_of_script-clause-other c =
    let decides = slice_eq-Decides Decides-eqb _ _ _ c.eq.ensures in
    λ none. no_parts c.args.line.now c.in-Some.space c.in-Some.ensures
    (λ same. true≢false (sym (decides.1 (same ∙ sym c.as_slice.ensures)) ∙ c.if-eq.false))
    (λ script. true≢false (sym (c.is_of_script.ensures.1 script) ∙ c.if-is_of_script.false))
