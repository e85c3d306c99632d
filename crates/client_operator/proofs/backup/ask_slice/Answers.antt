use Rattle.client_lines.proofs.Refused.{IfOk-map}
use Rattle.client_operator.proofs.BackedUp.{Asks-told}
use Rattle.client_operator.proofs.backup.ask_slice.Goals as goal

pub returns : goal.returns
returns g c = λ printed.
    let told = rw c.as_slice.ensures.value at c.is_more.ensures in
    IfOk-map c.is_more.result _ _
    (λ is_more is. Asks-told _ _ _ _ printed _ c.in_ok-told.told.items _ is
    c.in_ok-told.ensures.sent c.in_ok-told.ensures.heard)
    told
