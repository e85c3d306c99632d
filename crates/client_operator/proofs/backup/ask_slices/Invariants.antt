use Rattle.client_lines.specs.Replies.{Known}
use Rattle.client_operator.specs.Talks.{over}
use Rattle.client_operator.proofs.BackedUp.{AsksSome}
use Rattle.client_operator.proofs.backup.ask_slices.Given as goal

abbrev pub invariant-loop : goal.invariant-loop
invariant-loop g l = (printed : Known) → AsksSome l.line
    (over g.W.Write.contents g.R.Read.remaining l.initial.peer printed)
    (over g.W.Write.contents g.R.Read.remaining l.peer printed)
