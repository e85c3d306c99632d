use Rattle.ipp_coding.specs.Spelling.{header_spelling}
use Rattle.client_lines.proofs.Refused.{OnOk-map}
use Rattle.client_owner.specs.Requests.{request_header}
use Rattle.client_owner.proofs.Spelled.{front_spelled}
use Rattle.client_owner.proofs.put.put_front.Goals as goal

pub returns : goal.returns
returns c = OnOk-map c.put_single-3.result _ _
    (λ last. front_spelled (header_spelling (request_header c.args.operation)) c.args.uri.now _ _ _ _ _ _
    c.in_ok-begin_request.ensures c.in_ok-begin_group.ensures c.in_ok-put_single.ensures
    c.in_ok-put_single-2.ensures last) c.put_single-3.ensures
