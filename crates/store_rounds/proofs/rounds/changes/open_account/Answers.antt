use Rattle.store_rounds.proofs.KeptLemmas.{account_opened}
use Rattle.store_rounds.proofs.rounds.changes.open_account.Goals as goal

pub invariant_of-connection : goal.invariant_of-connection
invariant_of-connection g c ours =
    account_opened g.S.Store c.connection.inside.connection c.open_account-made.new.connection _ _ _
    c.note_committed.ensures
    (c.connection.invariant ours) c.args.account c.open_account-made.result (λ a b made. made.alone) c.open_account-made.ensures.opens c.follow_opening.ensures
