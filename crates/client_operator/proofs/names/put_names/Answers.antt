use Rattle.std.proofs.Common.{rules}
use Rattle.client_operator.specs.Names.{TellsName}
use Rattle.client_operator.proofs.Turns.{InTurn-next-seen}
use Rattle.client_operator.proofs.names.put_names.Goals as goal

pub loop-line-preserved : goal.loop-line-preserved
loop-line-preserved c =
    let tells = rw c.as_slice.ensures.value at c.in_ok-put_name.ensures in
    InTurn-next-seen (λ line. line.items) TellsName c.args.names.now.items c.loop-line.names.items
    c.put_name.new.names.items c.args.lines.now c.loop-line.line-index c.line-item.result (search rules)
    c.line-item.is c.loop-line.invariant tells
