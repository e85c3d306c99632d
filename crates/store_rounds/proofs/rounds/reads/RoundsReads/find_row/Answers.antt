use Rattle.std.proofs.Common.{subst}
use Rattle.sqlite.specs.Held.{state}
use Rattle.sqlite.specs.State.{HasCleanDisk}
use Rattle.sqlite.specs.Values.{bound}
use Rattle.rows_tables.specs.Queries.{Finds}
use Rattle.store_rounds.proofs.KeptLemmas.{found_kept}
use Rattle.store_rounds.proofs.rounds.reads.RoundsReads.find_row.Goals as goal

pub invariant_of-self : goal.invariant_of-self
invariant_of-self g c ours =
    let told = c.find_row-found.ensures in
    found_kept (state g.S.Store c.self.inside.connection) (state g.S.Store c.find_row-found.new.self) _ _ told.connection.keeps c.note_committed.ensures
    (c.self.invariant ours) c.args.text.now (bound c.args.params.now) c.requires c.find_row-found.result told.finds c.forget_after_fault.ensures

pub returns-clause-finds : goal.returns-clause-finds
returns-clause-finds g c = subst (λ h. HasCleanDisk (state g.S.Store c.find_row-found.new.self) → Finds (state g.S.Store h) (state g.S.Store c.find_row-found.new.self) c.args.text.now (bound c.args.params.now) c.find_row-found.result) c.self.view_is c.find_row-found.ensures.finds
