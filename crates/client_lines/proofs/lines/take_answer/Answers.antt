use Rattle.std.proofs.Common.{sym, ◌∙◌}
use Rattle.client_lines.proofs.Printed.{AnsweredOnce-of}
use Rattle.client_lines.proofs.lines.take_answer.Goals as goal

pub returns-clause-answered : goal.returns-clause-answered
returns-clause-answered g c =
    let read = rw c.as_slice.ensures.value at c.read.ensures in
    let said = sym read ∙ c.in_ok-answer.ensures.ok_part in
    let prints = rw c.as_slice-2.ensures.value at c.in_ok-print_answer.ensures.printed in
    AnsweredOnce-of _ _ _ _ _ _ c.args.line.now c.in_ok-text.text.items c.in_ok-answer.answer said c.in_ok-text.ensures.line prints
