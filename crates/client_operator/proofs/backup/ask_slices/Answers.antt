use Rattle.client_operator.proofs.BackedUp.{AsksSlices-of, AsksSome-more, AsksSome-none}
use Rattle.client_operator.proofs.backup.ask_slices.Goals as goal

pub loop-init : goal.loop-init
loop-init g c = λ printed. AsksSome-none _ _

pub loop-preserved : goal.loop-preserved
loop-preserved g c = λ printed. AsksSome-more _ _ _ _ c.in_ok-is_more.is_more c.if-not-is_more.false
    (c.loop.invariant printed) (c.in_ok-is_more.ensures printed)

pub returns-then-not-is_more : goal.returns-then-not-is_more
returns-then-not-is_more g c = λ printed. AsksSlices-of _ _ _ _ c.in_ok-is_more.is_more c.if-not-is_more.true
    (c.loop.invariant printed) (c.in_ok-is_more.ensures printed)
