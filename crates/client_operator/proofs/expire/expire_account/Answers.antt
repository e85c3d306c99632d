use Rattle.std.proofs.Common.{ap, map, sym, ◌∙◌}
use Rattle.client_lines.proofs.Refused.{IfOk-map}
use Rattle.client_operator.proofs.AskedLists.{AsksList-of}
use Rattle.client_operator.proofs.Expired.{ExpiresAccount-of}
use Rattle.client_operator.proofs.expire.expire_account.Goals as goal

pub returns : goal.returns
returns g c =
    let asks = AsksList-of _ _ _ _ (g.O.Write.contents c.args.output.now) _ _ _ _
    (c.as_slice.ensures.value ∙ c.in_ok-asked.ensures) (ap (map _) (sym c.as_slice-2.ensures.value))
    c.in_ok-lines.ensures.sent c.in_ok-lines.ensures.heard in
    IfOk-map c.expire_lines.result _ _
    (λ done each. ExpiresAccount-of c.args.expiry c.args.account.now _ _ _ c.args.done_before _ asks each)
    c.expire_lines.ensures
