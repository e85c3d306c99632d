use Rattle.std.proofs.Common.{map, take}
use Rattle.ipp_coding.specs.Plain.{plain_group}
use Rattle.client_operator.specs.Talks.{InTurn}
use Rattle.client_owner.specs.Tables.{ListsJob}
use Rattle.client_owner.proofs.jobs.put_jobs.Given as goal

abbrev pub invariant-loop-group : goal.invariant-loop-group
invariant-loop-group l = InTurn (ListsJob l.now) l.initial.text.items l.text.items
    (map plain_group (take l.group-index l.groups))
