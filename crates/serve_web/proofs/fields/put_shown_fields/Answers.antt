use Rattle.serve_web.proofs.FieldLists.{one_then}
use Rattle.serve_web.proofs.fields.put_shown_fields.Goals as goal

pub returns-clause-fields : goal.returns-clause-fields
returns-clause-fields c =
    one_then _ _ _ _ _ _ _ c.from_static.ensures c.in_ok-add_header.ensures.headers c.in_ok-put_common_fields.ensures.fields
