use Rattle.std.proofs.Common.{IsTrue}
use Rattle.sqlite.specs.Held.{state}
use Rattle.store_rounds.proofs.KeptLemmas.{charged_told, reserved_told, sums_kept, sums_known, sums_so}
use Rattle.store_rounds.proofs.rounds.reads.sum_up.Goals as goal

pub invariant_of-connection : goal.invariant_of-connection
invariant_of-connection g c ours =
    let told = c.sums_knowing-found.ensures in
    sums_kept (state g.S.Store c.connection.inside.connection) (state g.S.Store c.sums_knowing-found.new.connection) _ _ told.reads.keeps
    c.note_committed.ensures
    (c.connection.invariant ours) c.args.account c.sums_knowing-found.result told.reads.same told.reads.stays
    (λ clean kept. told.sums clean kept.schema (sums_known (state g.S.Store c.connection.inside.connection) c.connection.inside.kept (IsTrue c.connection.inside.is_ours) c.args.account c.sums-known.result c.sums-known.ensures.kept kept)) c.keep_sums.ensures

pub returns-clause-reserved : goal.returns-clause-reserved
returns-clause-reserved g c =
    let told = c.sums_knowing-found.ensures in
    rw c.connection.view_is at (reserved_told (state g.S.Store c.connection.inside.connection) (state g.S.Store c.sums_knowing-found.new.connection) c.args.account c.sums_knowing-found.result (sums_so (state g.S.Store c.connection.inside.connection) (state g.S.Store c.sums_knowing-found.new.connection) c.connection.inside.kept c.connection.inside.is_ours c.args.account c.sums-known.result c.sums-known.ensures.kept c.connection.invariant c.sums_knowing-found.result told.reads.keeps told.reads.opened told.sums))

pub returns-clause-charged : goal.returns-clause-charged
returns-clause-charged g c =
    let told = c.sums_knowing-found.ensures in
    rw c.connection.view_is at (charged_told (state g.S.Store c.connection.inside.connection) (state g.S.Store c.sums_knowing-found.new.connection) c.args.account c.sums_knowing-found.result (sums_so (state g.S.Store c.connection.inside.connection) (state g.S.Store c.sums_knowing-found.new.connection) c.connection.inside.kept c.connection.inside.is_ours c.args.account c.sums-known.result c.sums-known.ensures.kept c.connection.invariant c.sums_knowing-found.result told.reads.keeps told.reads.opened told.sums))
