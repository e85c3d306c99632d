use Rattle.std.proofs.Common.{◌∙◌, ap, map, refl, subst, sym}
use Rattle.std.proofs.lemmas.List.{map-append}
use Rattle.client_lines.proofs.Heard.{HearsLines-more, HearsLines-none}
use Rattle.client_lines.specs.Asking.{HearsLines}
use Rattle.client_lines.proofs.asking.hear_lines.Goals as goal

pub loop-init : goal.loop-init
loop-init g c = (subst (HearsLines _ _ 0) (sym (ap (map _) c.new-lines.ensures.items)) (HearsLines-none _), refl)

pub loop-preserved : goal.loop-preserved
loop-preserved g c =
    let before = c.loop.invariant in
    let more = HearsLines-more _ _ _ c.loop.counter _ c.in_ok-line.line.items before.0 c.in_ok-line.ensures.text c.in_ok-line.ensures.line in (
      subst (HearsLines _ _ _) (sym (ap (map _) c.in_ok-push.ensures.items ∙ map-append _ _ _)) more,
      c.in_ok-line.ensures.writer ∙ before.1,
    )
