use Rattle.client_lines.proofs.Refused.{OnOk-map}
use Rattle.client_owner.specs.Requests.{print_attributes, request_header}
use Rattle.client_owner.proofs.Spelled.{two_groups}
use Rattle.client_owner.proofs.requests.put_print_job.Goals as goal

pub returns : goal.returns
returns c =
    let job = c.args.job.now in
    OnOk-map c.end_groups.result _ _
    (λ ended. two_groups (request_header 0x0002) c.args.uri.now (print_attributes job) job.copies job.document.now
    _ _ _ _ _ _ c.in_ok-put_front.ensures c.in_ok-put_print_attributes.ensures c.in_ok-begin_group.ensures
    c.in_ok-put_integer.ensures ended) c.end_groups.ensures
