use Rattle.serve_peers.proofs.queue_service.put_told.Goals as goal

pub returns-in-Ok-Ipp : goal.returns-in-Ok-Ipp
returns-in-Ok-Ipp c = rw (c.in-Ok-Ipp.is, c.in-Ok-Ipp.field-0-is, ← c.answer.view_is) c.put_answer.ensures

pub returns-in-Ok-NoAccount : goal.returns-in-Ok-NoAccount
returns-in-Ok-NoAccount c = rw (c.in-Ok-NoAccount.is, c.in-Ok-NoAccount.field-0-is) c.refuse.ensures

pub returns-in-Ok-Line : goal.returns-in-Ok-Line
returns-in-Ok-Line c = rw (c.in-Ok-Line.is, c.in-Ok-Line.field-0-is) c.put_internal_error.ensures

pub returns-in-Ok-Documents : goal.returns-in-Ok-Documents
returns-in-Ok-Documents c = rw (c.in-Ok-Documents.is, c.in-Ok-Documents.field-0-is) c.put_internal_error-in-Ok-Documents.ensures

pub returns-in-Ok-Short : goal.returns-in-Ok-Short
returns-in-Ok-Short c = rw (c.in-Ok-Short.is, c.in-Ok-Short.field-0-is) c.put_internal_error-in-Ok-Short.ensures

pub returns : goal.returns
returns c = rw c.in-Err.is c.put_internal_error-in-Err.ensures
