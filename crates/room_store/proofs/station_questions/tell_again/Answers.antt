use Rattle.std.proofs.Common.{subst, sym, ◌∙◌, arith}
use Rattle.sqlite.specs.Held.{state}
use Rattle.sqlite.specs.State.{HasCleanDisk}
use Rattle.store_rounds.proofs.LookLemmas.{looks_after, read_passed}
use Rattle.store_events.proofs.Stationed.{known_row}
use Rattle.room_store.specs.Questions.{PrintedIsReadable}
use Rattle.rows_tables.specs.Keyed.{HasSchema}
use Rattle.room_store.proofs.station_questions.tell_again.Goals as goal

pub returns-clause-damaged : goal.returns-clause-damaged
returns-clause-damaged g c clean has is readable =
    let old = c.args.connection.now in
    let mid = c.find_device.new.connection in
    let was : HasCleanDisk (state g.S.Store mid) = omega (arith, c.hand_printed.ensures.looks.connection.keeps.clean, clean) in
    let same = ((read_passed g.S.Store old mid _ c.in_ok-find_device.ensures.reads).same was has).now in
    let known = known_row c.args.device _ _ _ (sym c.known_device.ensures ∙ c.in_default.is) (c.in_ok-find_device.ensures.found was has) in
    c.hand_printed.ensures.damaged clean (subst HasSchema (sym same) has) is (subst (PrintedIsReadable c.args.account c.args.device c.args.number) (sym same) (readable.1 known))

pub returns-clause-looks : goal.returns-clause-looks
returns-clause-looks g c = looks_after g.S.Store c.args.connection.now c.find_device.new.connection c.hand_printed.new.connection c.hand_printed.result (read_passed g.S.Store _ _ _ c.in_ok-find_device.ensures.reads) c.hand_printed.ensures.looks
