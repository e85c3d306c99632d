use Rattle.std.proofs.Common.{◌∙◌, refl}
use Rattle.client_lines.proofs.Printed.{TakesLines-more, TakesLines-none}
use Rattle.client_lines.proofs.lines.take_lines.Goals as goal

pub loop-init : goal.loop-init
loop-init g c = (TakesLines-none _ _, refl)

pub loop-preserved : goal.loop-preserved
loop-preserved g c =
    let line = c.in_ok-line.line.items in
    let before = c.loop.invariant in
    let prints = rw c.as_slice.ensures.value at c.in_ok-print_line.ensures.printed in (
      TakesLines-more _ _ _ _ _ _ c.loop.counter line before.0 c.in_ok-line.ensures.text c.in_ok-line.ensures.line prints,
      c.in_ok-line.ensures.writer ∙ before.1,
    )
