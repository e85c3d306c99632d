use Rattle.std.proofs.Common.{refl, ◌∙◌}
use Rattle.std.proofs.lemmas.Result.{on_ok_weaker}
use Rattle.client_operator.proofs.AskedLists.{Asks-of, AsksList-of}
use Rattle.client_operator.proofs.Reported.{ReportsAccount-of}
use Rattle.client_operator.proofs.report.report_account.Goals as goal

pub returns : goal.returns
returns g c =
    let asks = Asks-of _ _ _ _ _ _ _ c.in_ok-told.told.items (c.as_slice.ensures.value ∙ c.in_ok-asked.ensures)
    c.in_ok-told.ensures.sent c.in_ok-told.ensures.heard in
    let tells = rw c.as_slice-3.ensures.value at c.in_ok-statement.ensures in
    let grants = AsksList-of _ _ _ _ _ _ _ _ _ (c.as_slice-4.ensures.value ∙ c.in_ok-asked-2.ensures) refl
    c.in_ok-grants.ensures.sent c.in_ok-grants.ensures.heard in
    let gives = rw c.as_slice-5.ensures.value at c.in_ok-refunded.ensures in
    on_ok_weaker c.print_account.result
    (ReportsAccount-of _ _ c.in_ok-told.told.items _ _ _ _ _ _ _ asks tells grants gives) c.print_account.ensures
