use Rattle.std.proofs.Common.{Bool, OnOk, subst}
use Rattle.page_pages.specs.declared.outcome.Outcome.{Outcome}
use Rattle.serve_web.specs.Responses.{IsDoneIf, IsRedirect, location}
use Rattle.serve_web.specs.Outcomes.{outcome_told}
use Rattle.serve_web.proofs.answer.put_told.Goals as goal

pub returns-then-is_not_open : goal.returns-then-is_not_open
returns-then-is_not_open c =
    subst (λ (b : Bool). OnOk c.refuse.result (IsDoneIf b (location c.args.account (outcome_told c.args.act c.args.job c.args.told.now)) c.args.closes c.refuse.new.response)) c.if-is_not_open.ensures c.refuse.ensures

pub returns : goal.returns
returns c =
    subst (λ (b : Bool). OnOk c.redirect.result (IsDoneIf b (location c.args.account (outcome_told c.args.act c.args.job c.args.told.now)) c.args.closes c.redirect.new.response)) c.if-is_not_open.ensures
    (subst (λ (o : Outcome). OnOk c.redirect.result (IsRedirect (location c.args.account o) c.args.closes c.redirect.new.response)) c.outcome_told-outcome.ensures c.redirect.ensures)
