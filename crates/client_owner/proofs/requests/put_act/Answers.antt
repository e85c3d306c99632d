use Rattle.std.proofs.Common.{[], ◌∷◌, codes}
use Rattle.client_lines.proofs.Refused.{OnOk-map}
use Rattle.account_replies.specs.Attributes.{attribute_with, number_bytes}
use Rattle.client_owner.specs.Requests.{act_id, request_header}
use Rattle.client_owner.proofs.Spelled.{one_group}
use Rattle.client_owner.proofs.requests.put_act.Goals as goal

pub returns : goal.returns
returns c =
    let fronted = rw c.operation_id.ensures at c.in_ok-put_front.ensures in
    OnOk-map c.end_groups.result _ _
    (λ ended. one_group (request_header (act_id c.args.act)) c.args.uri.now
    (attribute_with (codes "job-id") 0x21 (number_bytes c.args.job) ∷ []) [] _ _ _ _
    fronted c.in_ok-put_integer.ensures ended) c.end_groups.ensures
