use Rattle.store_rounds.proofs.KeptLemmas.{asked_open, asked_shut}
use Rattle.store_rounds.proofs.rounds.reads.sums_knowing.Goals as goal

pub returns-in-Ok-clause-reads : goal.returns-in-Ok-clause-reads
returns-in-Ok-clause-reads g c = asked_open g.S.Store c.args.connection.now c.knock.new.connection c.in-Some.sums c.in-Ok.ensures.looks c.in-Ok.ensures.opened c.in-Ok.ensures.same

pub returns-in-Err-clause-reads : goal.returns-in-Err-clause-reads
returns-in-Err-clause-reads g c = asked_shut g.S.Store c.args.connection.now c.knock.new.connection c.in-Err.fault c.in-Err.ensures.looks c.in-Err.ensures.undone
