use Rattle.std.proofs.Common.{subst, sym, arith}
use Rattle.sqlite.specs.Effect.{Database}
use Rattle.sqlite.specs.Held.{state}
use Rattle.sqlite.specs.State.{HasCleanDisk}
use Rattle.store_rounds.proofs.LookLemmas.{looked, passed_then, read_passed}
use Rattle.room_store.proofs.about_account.read_statement.Goals as goal
use Rattle.rows_tables.specs.Accounts.{HoldsRoom}
use Rattle.rows_tables.specs.Keyed.{HasSchema}

pub returns-clause-told : goal.returns-clause-told
returns-clause-told g c clean has room holds =
    let old = c.args.connection.now in
    let mid = c.summarize.new.connection in
    let mid_clean : HasCleanDisk (state g.S.Store mid) = omega (arith, c.in_ok-granted.ensures.reads.keeps.clean, clean) in
    let same = ((read_passed g.S.Store old mid _ c.in_ok-summary.ensures.reads).same mid_clean has).now in
    let granted = c.in_ok-granted.ensures.granted clean (subst HasSchema (sym same) has) room (subst (λ (db : Database). HoldsRoom db c.args.account room) (sym same) holds) in
    (granted, c.in_ok-summary.ensures.told mid_clean has room holds)

pub returns-clause-looks : goal.returns-clause-looks
returns-clause-looks g c =
    looked g.S.Store _ _ _
    (passed_then (state g.S.Store c.args.connection.now) (state g.S.Store c.summarize.new.connection) (state g.S.Store c.granted_to.new.connection) (read_passed g.S.Store _ _ _ c.in_ok-summary.ensures.reads) (read_passed g.S.Store _ _ _ c.in_ok-granted.ensures.reads))
