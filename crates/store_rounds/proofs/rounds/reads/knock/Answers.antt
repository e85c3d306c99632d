use Rattle.sqlite.specs.Held.{state}
use Rattle.store_rounds.proofs.KeptLemmas.{told_kept}
use Rattle.store_rounds.proofs.rounds.reads.knock.Goals as goal

pub invariant_of-connection : goal.invariant_of-connection
invariant_of-connection g c ours =
    let looks = c.knock-found.ensures.looks in
    told_kept (state g.S.Store c.connection.inside.connection) (state g.S.Store c.knock-found.new.connection) _ _ looks.connection.keeps
    c.note_committed.ensures
    (c.connection.invariant ours) c.knock-found.result looks.same looks.undone c.forget_after_fault.ensures
