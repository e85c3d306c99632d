use Rattle.std.proofs.Common.{ℕ, List, Err, sym, ap, subst, ◌∙◌, arith}
use Rattle.std.proofs.lemmas.Result.{err_from_is_err_and}
use Rattle.sqlite.specs.Effect.{Database}
use Rattle.sqlite.specs.Held.{state}
use Rattle.sqlite.specs.State.{HasCleanDisk}
use Rattle.account_machine.specs.DeviceEvents.{DeviceAnswer, rated_answer}
use Rattle.rows_statements.specs.Alone.{OnlyDevices}
use Rattle.rows_statements.specs.Changed.{RatesDevice}
use Rattle.rows_statements.proofs.Retelling.{leaves_as}
use Rattle.rows_statements.proofs.WalkLemmas.{never_damaged}
use Rattle.rows_tables.specs.Devices.{HoldsDevices}
use Rattle.rows_tables.specs.Keyed.{HasSchema}
use Rattle.store_events.specs.Answers.{of_device_answer, refused_by}
use Rattle.store_events.specs.Serving.{ChangesRows}
use Rattle.store_events.proofs.FoundDevices.{is_known_device, rated_known, rated_unknown, same_devices}
use Rattle.store_events.proofs.ServingLemmas.{changed_after, handed, not_changed_after, read_failed_as, says}
use Rattle.store_rounds.proofs.LookLemmas.{read_passed}
use Rattle.store_events.proofs.devices.rate.Goals as goal

-- what it makes of the tables, as an event has it
abbrev DoesRate : List ℕ → ℕ → Database → Database → Type 0
DoesRate name units = ChangesRows (λ devices db. HoldsDevices db devices) OnlyDevices (λ devices db. HoldsDevices db (rated_answer devices name units).devices)

pub returns-in_err-find_device-clause-served : goal.returns-in_err-find_device-clause-served
returns-in_err-find_device-clause-served g c =
    let told = err_from_is_err_and c.from_residual.result c.from_residual.ensures.1 in
    read_failed_as _ _ _ _ _ g.S.Store _ _ c.from_residual.result told.0 _ told.1 told.2 c.in_err-find_device.ensures.reads
    (λ clean has is readable. c.in_err-find_device.ensures.damaged clean has (ap (λ e. Err e) is) readable)

pub returns-in_err-rate_device-clause-served : goal.returns-in_err-rate_device-clause-served
returns-in_err-rate_device-clause-served g c =
    let old = c.args.connection.now in
    let mid = c.find_device.new.connection in
    let new = c.rate_device.new.connection in
    let name = c.args.name in
    let units = c.args.units in
    let known = sym c.known_device.ensures ∙ c.in_default.is in
    let passed = read_passed g.S.Store old mid _ c.in_ok-find_device.ensures.reads in
    let fault = err_from_is_err_and c.from_residual-in_err-rate_device.result c.from_residual-in_err-rate_device.ensures.1 in
    let made = c.in_err-rate_device.ensures in
    handed _ _ _ _ _ g.S.Store old new c.from_residual-in_err-rate_device.result fault.0 _ fault.1 fault.2
    (not_changed_after _ _ _ _ _ g.S.Store old mid passed new _ made.rates.whole.keeps made.rates.whole.undone
    (λ was clean has same is readable. never_damaged c.in_err-rate_device.field-0.0 is)
    (λ has. leaves_as g.S.Store mid new (RatesDevice name units) (DoesRate name units)
    (λ clean has_mid after it.
    let was : HasCleanDisk (state g.S.Store mid) = omega (arith, made.rates.whole.keeps.clean, clean) in
    let same = (passed.same was has).now in (
      it.alone,
      λ devices held.
          let is = is_known_device devices name _ c.in_ok-find_device.field-0 c.in_default.field-0 (subst (λ db. HoldsDevices db devices) same held) (c.in_ok-find_device.ensures.found was has) known in
          subst (λ (a : DeviceAnswer). HoldsDevices after a.devices) (sym (rated_known devices name units is)) (it.devices devices held is),
    ))
    made.rates.crash))

pub returns-clause-served : goal.returns-clause-served
returns-clause-served g c =
    let old = c.args.connection.now in
    let mid = c.find_device.new.connection in
    let new = c.rate_device.new.connection in
    let name = c.args.name in
    let units = c.args.units in
    let known = sym c.known_device.ensures ∙ c.in_default.is in
    let passed = read_passed g.S.Store old mid _ c.in_ok-find_device.ensures.reads in
    let made = c.in_ok-rate_device.ensures in
    changed_after _ _ _ _ _ g.S.Store old mid passed new c.in_ok-answered.answered made.rates.whole
    (λ was clean has same.
    let after = made.rates.made clean (subst HasSchema (sym same) has) in (
      after.0,
      after.1.alone,
      λ devices held.
          let is = is_known_device devices name _ c.in_ok-find_device.field-0 c.in_default.field-0 held (c.in_ok-find_device.ensures.found was has) known in
          let answer = sym (rated_known devices name units is) in (
            c.in_ok-answered.ensures.answered ∙ ap of_device_answer answer,
            subst (λ (a : DeviceAnswer). HoldsDevices (state g.S.Store new).now a.devices) answer (after.1.devices devices (subst (λ db. HoldsDevices db devices) (sym same) held) is),
          ),
    ))
    (λ has. leaves_as g.S.Store mid new (RatesDevice name units) (DoesRate name units)
    (λ clean has_mid after it.
    let was : HasCleanDisk (state g.S.Store mid) = omega (arith, made.rates.whole.keeps.clean, clean) in
    let same = (passed.same was has).now in (
      it.alone,
      λ devices held.
          let is = is_known_device devices name _ c.in_ok-find_device.field-0 c.in_default.field-0 (subst (λ db. HoldsDevices db devices) same held) (c.in_ok-find_device.ensures.found was has) known in
          subst (λ (a : DeviceAnswer). HoldsDevices after a.devices) (sym (rated_known devices name units is)) (it.devices devices held is),
    ))
    made.rates.crash)

pub returns-in-Err-clause-served : goal.returns-in-Err-clause-served
returns-in-Err-clause-served g c =
    let old = c.args.connection.now in
    let mid = c.find_device.new.connection in
    says _ _ _ _ _ g.S.Store old mid (read_passed g.S.Store old mid _ c.in_ok-find_device.ensures.reads) same_devices (refused_by c.in-Err.word) c.refused_by.result c.refused_by.ensures.answered c.refused_by.ensures.memory
    (λ clean has devices held.
    let answer = sym (rated_unknown devices c.args.name c.args.units _ c.in_ok-find_device.field-0 c.in-Err.word held (c.in_ok-find_device.ensures.found clean has) (sym c.known_device.ensures ∙ c.in-Err.is)) in
    (ap of_device_answer answer, subst (λ (a : DeviceAnswer). HoldsDevices (state g.S.Store old).now a.devices) answer held))
