use Rattle.std.proofs.Common.{rules}
use Rattle.ipp_coding.specs.Plain.{plain_group}
use Rattle.client_operator.proofs.Turns.{InTurn-next-seen}
use Rattle.client_owner.specs.Tables.{ListsJob}
use Rattle.client_owner.proofs.jobs.put_jobs.Goals as goal

pub loop-group-preserved : goal.loop-group-preserved
loop-group-preserved c = InTurn-next-seen plain_group (ListsJob c.args.now) c.args.text.now.items
    c.loop-group.text.items c.put_group.new.text.items c.args.groups.now c.loop-group.group-index
    c.group-item.result (search rules) c.group-item.is c.loop-group.invariant c.in_ok-put_group.ensures
