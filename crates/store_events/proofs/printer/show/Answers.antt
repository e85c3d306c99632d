use Rattle.std.proofs.Common.{[], ◌∷◌, Err, sym, ap, subst, arith}
use Rattle.std.proofs.lemmas.Result.{err_from_is_err_and}
use Rattle.sqlite.specs.Effect.{Database}
use Rattle.sqlite.specs.State.{HasCleanDisk}
use Rattle.sqlite.specs.Held.{state}
use Rattle.store_events.specs.Answers.{request_done}
use Rattle.account_asks.specs.Asks.{plain_ask}
use Rattle.rows_statements.proofs.LeftAlone.{same_rows}
use Rattle.rows_tables.specs.Devices.{HoldsDevices}
use Rattle.rows_tables.specs.Keyed.{HasSchema}
use Rattle.account_replies.specs.Places.{plain_place}
use Rattle.account_replies.specs.PrinterAttributes.{printer_group}
use Rattle.store_events.specs.Reading.{DevicesAreReadable}
use Rattle.store_events.proofs.Made.{account_in_room}
use Rattle.store_events.proofs.Shown.{shown_so}
use Rattle.store_rounds.proofs.LookLemmas.{passed_then, read_passed}
use Rattle.store_events.proofs.ServingLemmas.{read_failed_as, says, serves_after}
use Rattle.store_events.proofs.printer.show.Goals as goal

pub returns-in_err-tally-clause-served : goal.returns-in_err-tally-clause-served
returns-in_err-tally-clause-served g c is_open =
    let told = err_from_is_err_and c.from_residual.result c.from_residual.ensures.1 in
    read_failed_as _ _ _ _ _ g.S.Store _ _ c.from_residual.result told.0 _ told.1 told.2 c.in_err-tally.ensures.reads
    (λ clean has is readable. c.in_err-tally.ensures.damaged clean has (ap (λ e. Err e) is) readable.0)

pub returns-in_err-on-clause-served : goal.returns-in_err-on-clause-served
returns-in_err-on-clause-served g c is_open =
    let told = err_from_is_err_and c.from_residual-in_err-on.result c.from_residual-in_err-on.ensures.1 in
    let passed = read_passed g.S.Store c.args.connection.now c.tally_unfinished.new.connection _ c.in_ok-tally.ensures.reads in
    serves_after _ _ _ _ _ g.S.Store _ _ passed {Rest = DevicesAreReadable} _ c.from_residual-in_err-on.result (λ clean has readable. readable.1)
    (read_failed_as _ _ _ _ _ g.S.Store _ _ c.from_residual-in_err-on.result told.0 _ told.1 told.2 c.in_err-on.ensures.reads
    (λ clean has is readable. c.in_err-on.ensures.damaged clean has (ap (λ e. Err e) is) readable))

pub returns-clause-served : goal.returns-clause-served
returns-clause-served g c opened =
    let ask = plain_ask c.args.request.now.ask in
    let old = c.args.connection.now in
    let mid = c.tally_unfinished.new.connection in
    let new = c.is_device_on.new.connection in
    let counted = read_passed g.S.Store old mid _ c.in_ok-tally.ensures.reads in
    let passed = passed_then (state g.S.Store old) (state g.S.Store mid) (state g.S.Store new) counted (read_passed g.S.Store mid new _ c.in_ok-on.ensures.reads) in
    says _ _ _ _ _ g.S.Store old new passed (same_rows c.args.request.now.account)
    (request_done ask ask.job (printer_group (plain_place c.place.result) c.printer_now-printer.result ask.wanted ∷ [])) c.printer_shown.result c.printer_shown.ensures.answered c.printer_shown.ensures.memory
    (λ clean has of held.
    let was : HasCleanDisk (state g.S.Store mid) = omega (arith, c.in_ok-on.ensures.reads.keeps.clean, clean) in
    let still = (counted.same was has).now in
    let account = account_in_room _ c.args.request.now.account c.args.request.now.row (opened clean has) of.0 held.room in
    let on = c.in_ok-on.ensures.of_map clean (subst HasSchema (sym still) has) of.1 (subst (λ (db : Database). HoldsDevices db of.1) (sym still) held.devices) in (
      shown_so of.0 c.args.request.now.account c.args.request.now.now ask c.args.request.now.row account (plain_place c.place.result) c.place.ensures.place of.1 c.printer_now-printer.result c.in_ok-tally.tally.unfinished c.in_ok-tally.tally.is_processing c.in_ok-on.on
          c.printer_now-printer.ensures.printer (c.in_ok-tally.ensures.queue was has of.0 held.room) on,
      held.room,
    ))
