use Rattle.room_serve.specs.Exchanges.{AppliesMessage}
use Rattle.room_serve.proofs.Applying.{if_ok_both, on_err_as}
use Rattle.room_serve.proofs.exchange.carry_out.Goals as goal
use Rattle.room_serve.proofs.exchange.carry_out.Given as goal_given

-- what the call of the store says
applied : (g : goal_given.Over) (c : goal.Joined-told g) → AppliesMessage g.S.Store c.args.now c.args.order.account c.args.body.now c.args.store.now c.apply-told.new.self c.apply-told.result
applied g c = c.apply-told.ensures.applies

pub returns-clause-told : goal.returns-clause-told
returns-clause-told g c = if_ok_both c.tell.result _ _ _ (λ after sent is. (c.apply-told.result, applied g c, sent, is)) c.tell.ensures.sent c.tell.ensures.after

pub returns-clause-front : goal.returns-clause-front
returns-clause-front g c = on_err_as c.tell.result _ _ (λ front. (c.apply-told.result, applied g c, front)) c.tell.ensures.front
