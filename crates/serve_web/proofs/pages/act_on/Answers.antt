use Rattle.serve_web.proofs.pages.act_on.Goals as goal

pub returns-clause-ok : goal.returns-clause-ok
returns-clause-ok g c = rw (← c.in_ok-message.ensures, ← c.page_act.ensures) c.in_ok-apply.ensures.ok
