use Rattle.sqlite.specs.Held.{state}
use Rattle.store_rounds.proofs.LookLemmas.{looked, passed_then, read_passed}
use Rattle.room_store.proofs.about_account.read_quota.Goals as goal

pub returns-clause-looks : goal.returns-clause-looks
returns-clause-looks g c =
    looked g.S.Store _ _ _
    (passed_then (state g.S.Store c.args.connection.now) (state g.S.Store c.sum_up.new.connection) (state g.S.Store c.granted_to.new.connection) (read_passed g.S.Store _ _ _ c.in_ok-sums.ensures.reads) (read_passed g.S.Store _ _ _ c.in_ok-granted.ensures.reads))
