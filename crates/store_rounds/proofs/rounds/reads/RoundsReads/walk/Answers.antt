use Rattle.std.proofs.Common.{subst}
use Rattle.sqlite.specs.Held.{state}
use Rattle.sqlite.specs.State.{HasCleanDisk}
use Rattle.sqlite.specs.Values.{bound}
use Rattle.rows_statements.specs.Walks.{Walks}
use Rattle.store_rounds.proofs.KeptLemmas.{walked_kept}
use Rattle.store_rounds.proofs.rounds.reads.RoundsReads.walk.Goals as goal

pub invariant_of-self : goal.invariant_of-self
invariant_of-self g c ours =
    let told = c.walk-walked.ensures in
    walked_kept (state g.S.Store c.self.inside.connection) (state g.S.Store c.walk-walked.new.self) _ _ told.connection.keeps c.note_committed.ensures
    (c.self.invariant ours) g.G.Gather.step g.G.Gather.refuses c.args.gathered.now c.walk-walked.new.gathered c.args.text.now (bound c.args.params.now) c.requires c.walk-walked.result told.walks c.forget_after_fault.ensures

pub returns-clause-walks : goal.returns-clause-walks
returns-clause-walks g c = subst (λ h. HasCleanDisk (state g.S.Store c.walk-walked.new.self) → Walks g.G.Gather.step g.G.Gather.refuses (state g.S.Store h) (state g.S.Store c.walk-walked.new.self) c.args.text.now (bound c.args.params.now) c.args.gathered.now c.walk-walked.new.gathered c.walk-walked.result) c.self.view_is c.walk-walked.ensures.walks
