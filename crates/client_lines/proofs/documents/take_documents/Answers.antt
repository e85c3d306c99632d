use Rattle.std.proofs.Common.{◌∙◌}
use Rattle.client_lines.proofs.Printed.{TakesDocuments-more}
use Rattle.client_lines.proofs.documents.take_documents.Goals as goal

pub loop-index-preserved : goal.loop-index-preserved
loop-index-preserved g c =
    let step = c.in_ok-take_document.ensures in
    let before = c.loop-index.invariant in (
      TakesDocuments-more (g.K.Keeper.shown c.args.keeper.now) _ _ _ _ _ _ c.in_ok-asked.asked.account c.in_ok-asked.asked.job c.loop-index.index before.0 (g.K.Keeper.shown c.loop-index.keeper) before.1 step.taken,
      step.same ∙ before.1,
      step.writer ∙ before.2,
    )
