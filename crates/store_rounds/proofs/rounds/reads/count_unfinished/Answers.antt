use Rattle.std.proofs.Common.{IsTrue}
use Rattle.sqlite.specs.Held.{state}
use Rattle.store_rounds.proofs.KeptLemmas.{count_kept, count_known, count_so, count_told}
use Rattle.store_rounds.proofs.rounds.reads.count_unfinished.Goals as goal

pub invariant_of-connection : goal.invariant_of-connection
invariant_of-connection g c ours =
    let told = c.count_knowing-found.ensures in
    count_kept (state g.S.Store c.connection.inside.connection) (state g.S.Store c.count_knowing-found.new.connection) _ _ told.reads.keeps
    c.note_committed.ensures
    (c.connection.invariant ours) c.args.account c.count_knowing-found.result told.reads.same told.reads.stays
    (λ clean kept. told.rows clean kept.schema (count_known (state g.S.Store c.connection.inside.connection) c.connection.inside.kept (IsTrue c.connection.inside.is_ours) c.args.account c.unfinished-known.result c.unfinished-known.ensures.kept kept)) c.keep_count.ensures

pub returns-clause-rows : goal.returns-clause-rows
returns-clause-rows g c =
    let told = c.count_knowing-found.ensures in
    rw c.connection.view_is at (count_so (state g.S.Store c.connection.inside.connection) (state g.S.Store c.count_knowing-found.new.connection) c.connection.inside.kept c.connection.inside.is_ours c.args.account c.unfinished-known.result c.unfinished-known.ensures.kept c.connection.invariant c.count_knowing-found.result told.reads.keeps told.reads.opened told.rows)

pub returns-clause-counted : goal.returns-clause-counted
returns-clause-counted g c =
    let told = c.count_knowing-found.ensures in
    rw c.connection.view_is at (count_told (state g.S.Store c.connection.inside.connection) (state g.S.Store c.count_knowing-found.new.connection) c.args.account c.count_knowing-found.result (count_so (state g.S.Store c.connection.inside.connection) (state g.S.Store c.count_knowing-found.new.connection) c.connection.inside.kept c.connection.inside.is_ours c.args.account c.unfinished-known.result c.unfinished-known.ensures.kept c.connection.invariant c.count_knowing-found.result told.reads.keeps told.reads.opened told.rows))
