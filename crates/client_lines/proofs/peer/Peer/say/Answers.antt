use Rattle.std.proofs.Common.{codes, ◌++◌}
use Rattle.client_lines.proofs.Fronts.{AppendsUpTo-behind, AppendsUpTo-kept, AppendsUpTo-longer}
use Rattle.client_lines.proofs.peer.Peer.say.Goals as goal

pub returns-in_err-put-clause-front : goal.returns-in_err-put-clause-front
returns-in_err-put-clause-front g c =
    AppendsUpTo-longer _ _ c.args.line.now (codes "\n") c.in_err-put.ensures.front

pub returns-in_err-put-2-clause-front : goal.returns-in_err-put-2-clause-front
returns-in_err-put-2-clause-front g c =
    AppendsUpTo-behind _ _ _ c.args.line.now (codes "\n") c.in_ok-put.ensures.whole
    c.in_err-put-2.ensures.front

pub returns-in_err-flush-clause-front : goal.returns-in_err-flush-clause-front
returns-in_err-flush-clause-front g c =
    AppendsUpTo-kept _ _ _ (c.args.line.now ++ codes "\n")
    (AppendsUpTo-behind _ _ _ c.args.line.now (codes "\n") c.in_ok-put.ensures.whole
    c.in_ok-put-2.ensures.front) c.in_err-flush.ensures.bytes

pub returns-clause-front : goal.returns-clause-front
returns-clause-front g c =
    AppendsUpTo-kept _ _ _ (c.args.line.now ++ codes "\n")
    (AppendsUpTo-behind _ _ _ c.args.line.now (codes "\n") c.in_ok-put.ensures.whole
    c.in_ok-put-2.ensures.front) c.in_ok-flush.ensures.bytes
