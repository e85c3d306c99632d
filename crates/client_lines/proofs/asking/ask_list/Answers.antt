use Rattle.client_lines.proofs.Heard.{HearsList-of}
use Rattle.client_lines.proofs.Refused.{IfOk-map}
use Rattle.client_lines.proofs.asking.ask_list.Goals as goal

pub returns-clause-heard : goal.returns-clause-heard
returns-clause-heard g c =
    let said = rw c.as_slice.ensures.value at c.in_ok-count.ensures in
    let first = rw c.in_ok-say.ensures.reader at c.in_ok-text.ensures.line in
    IfOk-map c.hear_lines.result _ _
    (λ lines heard. HearsList-of _ _ _ c.in_ok-text.text.items c.in_ok-count.count _ said first heard)
    c.hear_lines.ensures.heard
