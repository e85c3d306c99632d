use Rattle.std.proofs.Common.{IsTrue}
use Rattle.sqlite.specs.Held.{state}
use Rattle.store_rounds.proofs.KeptLemmas.{account_kept, row_known, row_so}
use Rattle.store_rounds.proofs.rounds.reads.find_account.Goals as goal

pub invariant_of-connection : goal.invariant_of-connection
invariant_of-connection g c ours =
    let told = c.find_knowing-found.ensures in
    account_kept (state g.S.Store c.connection.inside.connection) (state g.S.Store c.find_knowing-found.new.connection) _ _ told.reads.keeps
    c.note_committed.ensures
    (c.connection.invariant ours) c.args.account c.find_knowing-found.result told.reads.same told.reads.stays
    (λ clean kept. told.found clean kept.schema (row_known (state g.S.Store c.connection.inside.connection) c.connection.inside.kept (IsTrue c.connection.inside.is_ours) c.args.account c.row-known.result c.row-known.ensures.kept kept)) c.keep_account.ensures

pub returns-clause-found : goal.returns-clause-found
returns-clause-found g c =
    let told = c.find_knowing-found.ensures in
    rw c.connection.view_is at (row_so (state g.S.Store c.connection.inside.connection) (state g.S.Store c.find_knowing-found.new.connection) c.connection.inside.kept c.connection.inside.is_ours c.args.account c.row-known.result c.row-known.ensures.kept c.connection.invariant c.find_knowing-found.result told.reads.keeps told.reads.opened told.found)
