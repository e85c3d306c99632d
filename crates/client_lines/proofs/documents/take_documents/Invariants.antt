use Rattle.std.proofs.Common.{◌≡◌}
use Rattle.client_lines.specs.ProofAnswering.{TakesDocuments}
use Rattle.client_lines.proofs.documents.take_documents.Given as goal

abbrev pub invariant-loop-index : goal.invariant-loop-index
invariant-loop-index g l = TakesDocuments (g.K.Keeper.shown l.initial.keeper)
    (g.R.Read.remaining l.initial.peer.reader) (g.R.Read.remaining l.peer.reader)
    (g.O.Write.contents l.initial.output) (g.O.Write.contents l.output)
    l.asked.account l.asked.job l.index
    × (g.K.Keeper.shown l.keeper ≡ g.K.Keeper.shown l.initial.keeper)
    × (l.peer.writer ≡ l.initial.peer.writer)
