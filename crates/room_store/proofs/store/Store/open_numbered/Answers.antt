use Rattle.std.proofs.Common.{sym, subst, arith}
use Rattle.sqlite.specs.Held.{Held, state}
use Rattle.sqlite.specs.State.{HasCleanDisk}
use Rattle.room_store.proofs.NumberedLemmas.{numbered_opened}
use Rattle.room_store.proofs.store.Store.open_numbered.Goals as goal
use Rattle.rows_tables.specs.Keyed.{HasSchema}
use Rattle.rows_tables.specs.Making.{OpensTables}

pub returns-in-Ok-clause-schema : goal.returns-in-Ok-clause-schema
returns-in-Ok-clause-schema g c =
    let old = state g.S.Store c.into_connection-rows.result in
    let new = state g.S.Store c.open_tables.new.connection in
    subst (λ (h : Held _). HasCleanDisk (state g.S.Store h) → HasSchema (state g.S.Store h).now) (sym c.over_own.ensures)
    (λ (clean : HasCleanDisk new).
    let was : HasCleanDisk old = omega (arith, c.in-Ok.ensures.whole.keeps.clean, clean) in
    numbered_opened old new (c.in-Ok.ensures.opened clean) (c.into_connection-rows.ensures.numbered was))

pub returns-in-Ok-clause-clean : goal.returns-in-Ok-clause-clean
returns-in-Ok-clause-clean g c =
    subst (λ (h : Held _). HasCleanDisk (state g.S.Store h) → HasCleanDisk (state g.S.Store c.args.numbered)) (sym c.over_own.ensures)
    (λ (clean : HasCleanDisk (state g.S.Store c.open_tables.new.connection)).
    subst (λ (h : Held _). HasCleanDisk (state g.S.Store h)) c.into_connection-rows.ensures.same (omega (arith, c.in-Ok.ensures.whole.keeps.clean, clean)))

pub returns-in-Ok-clause-opened : goal.returns-in-Ok-clause-opened
returns-in-Ok-clause-opened g c =
    subst (λ (h : Held _). HasCleanDisk (state g.S.Store h) → OpensTables (state g.S.Store c.args.numbered) (state g.S.Store h)) (sym c.over_own.ensures)
    (λ (clean : HasCleanDisk (state g.S.Store c.open_tables.new.connection)).
    subst (λ (h : Held _). OpensTables (state g.S.Store h) (state g.S.Store c.open_tables.new.connection)) c.into_connection-rows.ensures.same (c.in-Ok.ensures.opened clean))

pub over_own-requires-clause-schema : goal.over_own-requires-clause-schema
over_own-requires-clause-schema g c clean opened =
    let old = state g.S.Store c.into_connection-rows.result in
    let new = state g.S.Store c.open_tables.new.connection in
    let was : HasCleanDisk old = omega (arith, c.in-Ok.ensures.whole.keeps.clean, clean) in
    numbered_opened old new (c.in-Ok.ensures.opened clean) (c.into_connection-rows.ensures.numbered was)
