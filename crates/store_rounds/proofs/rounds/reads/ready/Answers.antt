use Rattle.sqlite.specs.Held.{state}
use Rattle.store_rounds.proofs.KeptLemmas.{opened_kept, told_kept}
use Rattle.store_rounds.proofs.rounds.reads.ready.Goals as goal

pub invariant_of-connection : goal.invariant_of-connection
invariant_of-connection g c ours =
    let looks = c.knock-found.ensures.looks in
    λ clean is_open. opened_kept (state g.S.Store c.knock-found.new.connection) c.forget_after_fault.new.self c.open.new.self c.open.ensures.accounts c.open.ensures.job
    (told_kept (state g.S.Store c.connection.inside.connection) (state g.S.Store c.knock-found.new.connection) _ _ looks.connection.keeps
    c.note_committed.ensures
    (c.connection.invariant ours) c.knock-found.result looks.same looks.undone c.forget_after_fault.ensures clean is_open)
