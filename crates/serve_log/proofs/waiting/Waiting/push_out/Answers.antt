use Rattle.serve_log.proofs.Writes.{none_lost}
use Rattle.serve_log.specs.Waits.{waiting_of, written_of}
use Rattle.serve_log.proofs.waiting.Waiting.push_out.Goals as goal

pub returns-clause-logged : goal.returns-clause-logged
returns-clause-logged g c = none_lost (written_of c.args.self.now) (waiting_of c.args.self.now) (written_of c.drop_written.new.self) (waiting_of c.drop_written.new.self) c.in_ok-taken.taken c.drop_written.ensures.written c.drop_written.ensures.waiting
