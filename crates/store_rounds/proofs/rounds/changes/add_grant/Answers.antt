use Rattle.store_rounds.proofs.KeptLemmas.{account_granted}
use Rattle.store_rounds.proofs.rounds.changes.add_grant.Goals as goal

pub invariant_of-connection : goal.invariant_of-connection
invariant_of-connection g c ours =
    account_granted g.S.Store c.connection.inside.connection c.add_grant-made.new.connection _ _ _
    c.note_committed.ensures
    (c.connection.invariant ours) c.args.account c.add_grant-made.result (λ a b made. (made.alone, made.account, made.jobs)) c.add_grant-made.ensures.grants c.forget_after_fault.ensures
