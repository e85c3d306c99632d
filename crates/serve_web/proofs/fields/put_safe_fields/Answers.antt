use Rattle.serve_web.proofs.FieldLists.{both_put, one_then}
use Rattle.serve_web.proofs.fields.put_safe_fields.Goals as goal

pub returns-clause-fields : goal.returns-clause-fields
returns-clause-fields c =
    both_put _ _ _ _ _ c.in_ok-put_policy.ensures.fields
    (one_then _ _ _ _ _ _ _ c.from_static-sniff.ensures c.in_ok-add_header.ensures.headers
    (one_then _ _ _ _ _ _ _ c.from_static-referrer.ensures c.in_ok-add_header-2.ensures.headers c.in_ok-put_close.ensures.fields))
