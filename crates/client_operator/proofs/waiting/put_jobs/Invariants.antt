use Rattle.std.proofs.Common.{map, take}
use Rattle.client_operator.specs.Talks.{InTurn}
use Rattle.client_operator.specs.Waiting.{ListsJob}
use Rattle.client_operator.proofs.waiting.put_jobs.Given as goal

abbrev pub invariant-loop-line : goal.invariant-loop-line
invariant-loop-line l = InTurn (ListsJob l.age l.account) l.initial.records.items l.records.items
    (map (λ line. line.items) (take l.line-index l.lines))
