use Rattle.std.proofs.Common.{◌∙◌}
use Rattle.client_lines.proofs.Refused.{IfOk-map}
use Rattle.client_operator.proofs.AskedLists.{Asks-of}
use Rattle.client_operator.proofs.Expired.{CancelsJob-of}
use Rattle.client_operator.proofs.expire.cancel_job.Goals as goal

pub returns : goal.returns
returns g c =
    let asks = Asks-of _ _ _ _ (g.O.Write.contents c.args.output.now) _ _ c.in_ok-told.told.items
    (c.as_slice.ensures.value ∙ c.in_ok-asked.ensures) c.in_ok-told.ensures.sent c.in_ok-told.ensures.heard in
    IfOk-map c.is_done.result _ _
    (λ done is. CancelsJob-of _ _ c.in_ok-told.told.items _ _ _ done _ _ _ asks
    (c.as_slice-2.ensures.value ∙ c.in_ok-shown.ensures) c.as_slice-3.ensures.value c.in_ok-print_told.ensures
    c.as_slice-4.ensures.value is)
    c.is_done.ensures
