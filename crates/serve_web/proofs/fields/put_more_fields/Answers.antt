use Rattle.serve_web.proofs.FieldLists.{one_put}
use Rattle.serve_web.proofs.fields.put_more_fields.Goals as goal

pub returns-in_ok-add_header-in-OnlyRead-clause-fields :
    goal.returns-in_ok-add_header-in-OnlyRead-clause-fields
returns-in_ok-add_header-in-OnlyRead-clause-fields c =
    rw c.in-OnlyRead.is (one_put _ _ _ _ _ c.from_static-read.ensures c.in_ok-add_header-in-OnlyRead.ensures.headers)
