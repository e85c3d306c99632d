use Rattle.std.proofs.Common.{ℕ, List, Bool, Err, sym, ap, subst, arith}
use Rattle.std.proofs.lemmas.Result.{err_from_is_err_and}
use Rattle.sqlite.specs.Held.{state}
use Rattle.sqlite.specs.State.{HasCleanDisk}
use Rattle.sqlite.specs.Effect.{Database}
use Rattle.account_rules.specs.Devices.{switched}
use Rattle.rows_statements.specs.Changed.{SwitchesDevice}
use Rattle.rows_statements.specs.Alone.{OnlyDevices}
use Rattle.rows_statements.proofs.Retelling.{leaves_as}
use Rattle.rows_statements.proofs.WalkLemmas.{never_damaged}
use Rattle.rows_tables.specs.Devices.{HoldsDevices}
use Rattle.rows_tables.specs.Keyed.{HasSchema}
use Rattle.store_events.specs.Serving.{ChangesRows}
use Rattle.store_events.proofs.FoundDevices.{is_new_device}
use Rattle.store_events.proofs.ServingLemmas.{changed_after, handed, not_changed_after, read_failed_as}
use Rattle.store_rounds.proofs.LookLemmas.{read_passed}
use Rattle.store_events.proofs.devices.switch.Goals as goal

-- what it makes of the tables, as an event has it
abbrev DoesSwitch : List ℕ → Bool → Database → Database → Type 0
DoesSwitch name on = ChangesRows (λ devices db. HoldsDevices db devices) OnlyDevices (λ devices db. HoldsDevices db (switched devices name on))

pub returns-in_err-find_device-clause-served : goal.returns-in_err-find_device-clause-served
returns-in_err-find_device-clause-served g c =
    let told = err_from_is_err_and c.from_residual.result c.from_residual.ensures.1 in
    read_failed_as _ _ _ _ _ g.S.Store _ _ c.from_residual.result told.0 _ told.1 told.2 c.in_err-find_device.ensures.reads
    (λ clean has is readable. c.in_err-find_device.ensures.damaged clean has (ap (λ e. Err e) is) readable)

pub returns-in_err-switch_device-clause-served : goal.returns-in_err-switch_device-clause-served
returns-in_err-switch_device-clause-served g c =
    let old = c.args.connection.now in
    let mid = c.find_device.new.connection in
    let new = c.switch_device.new.connection in
    let name = c.args.name in
    let is_new = c.is_none-is_new.result in
    let passed = read_passed g.S.Store old mid _ c.in_ok-find_device.ensures.reads in
    let fault = err_from_is_err_and c.from_residual-in_err-switch_device.result c.from_residual-in_err-switch_device.ensures.1 in
    let made = c.in_err-switch_device.ensures in
    handed _ _ _ _ _ g.S.Store old new c.from_residual-in_err-switch_device.result fault.0 _ fault.1 fault.2
    (not_changed_after _ _ _ _ _ g.S.Store old mid passed new _ made.turns.whole.keeps made.turns.whole.undone
    (λ was clean has same is readable. never_damaged c.in_err-switch_device.field-0.0 is)
    (λ has. leaves_as g.S.Store mid new (SwitchesDevice name c.args.on is_new) (DoesSwitch name c.args.on)
    (λ clean has_mid after it.
    let was : HasCleanDisk (state g.S.Store mid) = omega (arith, made.turns.whole.keeps.clean, clean) in
    let same = (passed.same was has).now in (
      it.alone,
      λ devices held. it.devices devices held (is_new_device devices name _ c.in_ok-find_device.field-0 is_new (subst (λ db. HoldsDevices db devices) same held) (c.in_ok-find_device.ensures.found was has) c.is_none-is_new.ensures),
    ))
    made.turns.crash))

pub returns-clause-served : goal.returns-clause-served
returns-clause-served g c =
    let old = c.args.connection.now in
    let mid = c.find_device.new.connection in
    let new = c.switch_device.new.connection in
    let name = c.args.name in
    let is_new = c.is_none-is_new.result in
    let passed = read_passed g.S.Store old mid _ c.in_ok-find_device.ensures.reads in
    let made = c.in_ok-switch_device.ensures in
    changed_after _ _ _ _ _ g.S.Store old mid passed new c.in_ok-answered.answered made.turns.whole
    (λ was clean has same.
    let after = made.turns.made clean (subst HasSchema (sym same) has) in (
      after.0,
      after.1.alone,
      λ devices held. (
        c.in_ok-answered.ensures.answered,
        after.1.devices devices (subst (λ db. HoldsDevices db devices) (sym same) held) (is_new_device devices name _ c.in_ok-find_device.field-0 is_new held (c.in_ok-find_device.ensures.found was has) c.is_none-is_new.ensures),
      ),
    ))
    (λ has. leaves_as g.S.Store mid new (SwitchesDevice name c.args.on is_new) (DoesSwitch name c.args.on)
    (λ clean has_mid after it.
    let was : HasCleanDisk (state g.S.Store mid) = omega (arith, made.turns.whole.keeps.clean, clean) in
    let same = (passed.same was has).now in (
      it.alone,
      λ devices held. it.devices devices held (is_new_device devices name _ c.in_ok-find_device.field-0 is_new (subst (λ db. HoldsDevices db devices) same held) (c.in_ok-find_device.ensures.found was has) c.is_none-is_new.ensures),
    ))
    made.turns.crash)
