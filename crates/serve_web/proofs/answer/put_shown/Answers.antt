use Rattle.serve_web.proofs.answer.put_shown.Goals as goal

pub returns-in-Ok-Ipp : goal.returns-in-Ok-Ipp
returns-in-Ok-Ipp c = rw (c.in-Ok-Ipp.is, c.in-Ok-Ipp.field-0-is) c.refuse.ensures

pub returns-in-Ok-NoAccount : goal.returns-in-Ok-NoAccount
returns-in-Ok-NoAccount c = rw (c.in-Ok-NoAccount.is, c.in-Ok-NoAccount.field-0-is) c.refuse-in-Ok-NoAccount.ensures

pub returns-in-Ok-Documents : goal.returns-in-Ok-Documents
returns-in-Ok-Documents c = rw (c.in-Ok-Documents.is, c.in-Ok-Documents.field-0-is) c.refuse-in-Ok-Documents.ensures

pub returns-in-Ok-Short : goal.returns-in-Ok-Short
returns-in-Ok-Short c = rw (c.in-Ok-Short.is, c.in-Ok-Short.field-0-is) c.refuse-in-Ok-Short.ensures

pub returns : goal.returns
returns c = rw c.in-Err.is c.refuse-in-Err.ensures
