use Rattle.std.proofs.lemmas.Result.{err_from_is_err_and}
use Rattle.std.proofs.Common.{refl, ◌∙◌, arith, rules}
use Rattle.client_lines.proofs.Printed.{Answered-more, Answered-none}
use Rattle.client_lines.proofs.Refused.{IsErrOf-of, OnErr-of}
use Rattle.client_lines.proofs.SentLines.{HasLongLine-after, IsAtKnownEnd-behind, SendsAll-end, SendsFront-behind, SendsOn-none, SendsOn-trans}
use Rattle.client_lines.proofs.lines.send_lines.Goals as goal

pub returns-in_err-answer-clause-front : goal.returns-in_err-answer-clause-front
returns-in_err-answer-clause-front g c =
    OnErr-of _ _
    (SendsFront-behind _ _ _ _ _ c.loop-number.invariant.0 c.in_err-answer.ensures.front)

pub returns-in_default-clause-sent : goal.returns-in_default-clause-sent
returns-in_default-clause-sent g c =
    let end = rw c.in_default.is at c.in_ok-answer.ensures.end in
    SendsAll-end _ _ _ _
    (SendsOn-trans _ _ _ _ _ _ c.loop-number.invariant.0 c.in_ok-answer.ensures.sent)
    (IsAtKnownEnd-behind _ _ _ _ _ c.loop-number.invariant.0 end)

pub loop-number-init : goal.loop-number-init
loop-number-init g c =
    (SendsOn-none _ _, Answered-none _ _ _ _, refl, search rules)

pub loop-number-preserved : goal.loop-number-preserved
loop-number-preserved g c =
    let before = c.loop-number.invariant in
    let answered = rw c.in-Some.is at c.in_ok-answer.ensures.answered in (
      SendsOn-trans _ _ _ _ _ _ before.0 c.in_ok-answer.ensures.sent,
      Answered-more (g.K.Keeper.shown c.args.keeper.now) _ _ _ _ _ _ _ _ _ c.loop-number.outcome c.in-Some.answer c.loop-number.number before.1.0 before.1.1 (g.K.Keeper.shown c.loop-number.keeper) before.2 answered _ c.after-outcome.ensures.after,
      c.in_ok-answer.ensures.same ∙ before.2,
      omega (arith, c.after-outcome.ensures.fewer),
    )

pub returns-in_err-answer-clause-long : goal.returns-in_err-answer-clause-long
returns-in_err-answer-clause-long g c =
    let exit = err_from_is_err_and c.from_residual.result c.from_residual.ensures.1 in
    rw (exit.1, exit.2) (λ is. HasLongLine-after _ _ _ _ _ c.loop-number.invariant.0
    (c.in_err-answer.ensures.long (IsErrOf-of _ _ is)))
