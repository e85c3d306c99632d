use Rattle.std.proofs.Common.{[], ◌∷◌, codes, map}
use Rattle.client_lines.proofs.Refused.{OnOk-map}
use Rattle.account_replies.specs.Attributes.{attribute_of, attribute_with, value_with}
use Rattle.client_owner.specs.Requests.{request_header, wanted}
use Rattle.client_owner.proofs.Spelled.{attributes-both, one_group}
use Rattle.client_owner.proofs.requests.put_get_jobs.Goals as goal

pub returns : goal.returns
returns c =
    let which = attribute_with (codes "which-jobs") 0x44 (codes "not-completed") in
    let wants = attribute_of (codes "requested-attributes") (map (value_with 0x44) wanted) in
    let asked = attributes-both (which ∷ []) (wants ∷ []) _ _ _ c.in_ok-put_single.ensures c.in_ok-put_wanted.ensures in
    OnOk-map c.end_groups.result _ _
    (λ ended. one_group (request_header 0x000A) c.args.uri.now (which ∷ wants ∷ []) [] _ _ _ _
    c.in_ok-put_front.ensures asked ended) c.end_groups.ensures
