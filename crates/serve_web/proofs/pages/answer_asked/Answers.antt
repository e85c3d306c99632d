use Rattle.std.proofs.Common.{Bool, OnOk, subst}
use Rattle.serve_web.specs.Answers.{ActsOn}
use Rattle.serve_web.proofs.pages.answer_asked.Goals as goal

pub returns-in-Act-clause-ok : goal.returns-in-Act-clause-ok
returns-in-Act-clause-ok g c =
    rw c.in-Act.is (subst (λ (b : Bool). OnOk c.act_on.result (ActsOn g.S.Store c.in-Act.account c.in-Act.act c.in-Act.job b c.args.served.now c.act_on.new.response c.act_on.new.served)) c.has_long_body-closes.ensures c.act_on.ensures.ok)
