use Rattle.account_asks.proofs.Marks.{Marked}
use Rattle.account_asks.proofs.firsts.firsts_in.Given as goal

abbrev pub invariant-loop-turn : goal.invariant-loop-turn
invariant-loop-turn l = Marked l.firsts.items l.keys.items l.attributes l.turn
