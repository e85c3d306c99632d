use Rattle.std.proofs.Common.{map, take}
use Rattle.client_operator.specs.Names.{TellsName}
use Rattle.client_operator.specs.Talks.{InTurn}
use Rattle.client_operator.proofs.names.put_names.Given as goal

abbrev pub invariant-loop-line : goal.invariant-loop-line
invariant-loop-line l =
    InTurn TellsName l.initial.names.items l.names.items (map (λ line. line.items) (take l.line-index l.lines))
