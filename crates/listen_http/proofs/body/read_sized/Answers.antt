use Rattle.listen_http.proofs.ChunkSteps.{body_cut}
use Rattle.listen_http.proofs.body.read_sized.Goals as goal

pub returns-then-not-branch-clause-is : goal.returns-then-not-branch-clause-is
returns-then-not-branch-clause-is g c =
    let left = g.R.Source.left in
    let bulk = rw c.if-not-branch.true at c.in_ok-read_into.ensures.is in
    body_cut (left c.args.reader.now) (left c.read_into.new.reader) c.args.size bulk.0 bulk.1 bulk.3 bulk.4
