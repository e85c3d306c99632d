use Rattle.store_rounds.proofs.CacheLemmas.{put_result}
use Rattle.store_rounds.proofs.cache.set.Goals as goal

pub returns : goal.returns
returns c = put_result c.args.accounts.now c.args.account c.args.known c.put-before.result c.put-before.new.self c.put-before.ensures.entries c.put-before.ensures.err c.put-before.ensures.succeeds
