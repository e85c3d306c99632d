use Rattle.client_lines.proofs.Printed.{PrintsAnswer-documents, PrintsAnswer-lines}
use Rattle.client_lines.proofs.Refused.{OnOk-map}
use Rattle.client_lines.proofs.lines.print_answer.Goals as goal

pub returns-clause-printed : goal.returns-clause-printed
returns-clause-printed g c =
    let taken = rw c.lines.ensures at c.take_lines.ensures.taken in
    OnOk-map c.take_lines.result _ _
    (PrintsAnswer-lines (g.K.Keeper.shown c.args.keeper.now) _ _ _ _ _ c.args.line.now c.args.text.now c.args.answer c.in_default.not-Documents c.in_ok-print_line.ensures.printed)
    taken

pub returns-in-Documents-clause-printed : goal.returns-in-Documents-clause-printed
returns-in-Documents-clause-printed g c = rw c.in-Documents.is
    (OnOk-map c.take_documents.result _ _
    (PrintsAnswer-documents (g.K.Keeper.shown c.args.keeper.now) _ _ _ _ c.args.line.now c.args.text.now c.in-Documents.count)
    c.take_documents.ensures.taken)
