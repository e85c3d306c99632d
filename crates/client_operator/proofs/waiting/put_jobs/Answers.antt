use Rattle.std.proofs.Common.{rules}
use Rattle.client_operator.specs.Waiting.{ListsJob}
use Rattle.client_operator.proofs.Turns.{InTurn-next-seen}
use Rattle.client_operator.proofs.waiting.put_jobs.Goals as goal

pub loop-line-preserved : goal.loop-line-preserved
loop-line-preserved c =
    let lists = rw c.as_slice.ensures.value at c.in_ok-put_line.ensures in
    InTurn-next-seen (λ line. line.items) (ListsJob c.args.age c.args.account.now) c.args.records.now.items
    c.loop-line.records.items c.put_line.new.records.items c.args.lines.now c.loop-line.line-index
    c.line-item.result (search rules) c.line-item.is c.loop-line.invariant lists
