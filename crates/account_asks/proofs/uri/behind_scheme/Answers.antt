use Rattle.std.proofs.Common.{◌∙◌, sym}
use Rattle.account_asks.proofs.Schemes.{goes_on, rest_whole}
use Rattle.account_asks.proofs.uri.behind_scheme.Goals as goal

pub loop-start-preserved : goal.loop-start-preserved
loop-start-preserved c = c.loop-start.invariant ∙ goes_on c.args.uri.now c.loop-start.start c.loop-start-test.true (rw (← rest_whole c.args.uri.now c.loop-start.start) (sym c.starts_with.ensures.value ∙ c.if-starts_with.false))
