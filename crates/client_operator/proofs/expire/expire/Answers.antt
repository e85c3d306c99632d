use Rattle.client_lines.proofs.Refused.{IfOk-map}
use Rattle.client_operator.proofs.Expired.{Expires-of}
use Rattle.client_operator.proofs.expire.expire.Goals as goal

pub returns : goal.returns
returns g c = IfOk-map c.expire_each.result _ _
    (λ done each. Expires-of c.args.expiry done c.in_ok-names.names.items c.as_slice.result.now _ _ _
    c.as_slice.ensures.value (c.in_ok-names.ensures _) each)
    c.expire_each.ensures
