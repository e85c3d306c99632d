use Rattle.account_asks.proofs.Sorts.{KeysUpTo}
use Rattle.account_asks.proofs.firsts.keys_in.Given as goal

abbrev pub invariant-loop-place : goal.invariant-loop-place
invariant-loop-place l = KeysUpTo l.keys.items l.attributes l.place
