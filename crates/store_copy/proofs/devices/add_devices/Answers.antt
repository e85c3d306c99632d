use Rattle.std.proofs.Common.{◌++◌, ◌∷◌, [], List, take, sym, ap, ◌∙◌, subst, refl, arith}
use Rattle.std.proofs.lemmas.List.{take_more}
use Rattle.std.proofs.lemmas.Result.{err_from_is_err_and}
use Rattle.sqlite.specs.Held.{state}
use Rattle.sqlite.specs.State.{HasCleanDisk}
use Rattle.account_rules.specs.declared.device.Device.{Device}
use Rattle.store_copy.specs.ProofRows.{AddsDevices}
use Rattle.store_copy.proofs.WholeDevices.{device_added}
use Rattle.store_copy.proofs.SavepointKept.{kept_by_write, kept_itself, kept_then, kept_refused_as, kept_answered_as}
use Rattle.store_copy.proofs.devices.add_devices.Goals as goal

pub loop-device-init : goal.loop-device-init
loop-device-init g c = (kept_itself tt c.args.savepoint.now, λ clean has. (has, refl))

pub returns-in_err-add_device-clause-inside : goal.returns-in_err-add_device-clause-inside
returns-in_err-add_device-clause-inside g c =
    let told = err_from_is_err_and c.from_residual.result c.from_residual.ensures.1 in
    kept_refused_as _ _ c.in_err-add_device.field-0.0 _ _ told.1 (kept_then _ _ _ _ _ c.loop-device.invariant.0 (kept_by_write _ _ _ c.in_err-add_device.ensures.inside))

pub loop-device-preserved : goal.loop-device-preserved
loop-device-preserved g c =
    let all = c.args.devices.now in
    let old = state g.T.Store c.args.savepoint.now.conn.now in
    let mid = state g.T.Store c.loop-device.savepoint.conn.now in
    let new = state g.T.Store c.add_device.new.savepoint.conn.now in
    let item : Device = c.device-item.result in
    let write = kept_by_write _ _ _ c.in_ok-add_device.ensures.inside in (
      kept_answered_as _ _ _ tt (kept_then _ _ _ _ _ c.loop-device.invariant.0 write),
      λ clean has.
          let before : HasCleanDisk mid = omega (arith, write.survives.clean, clean) in
          let so_far = c.loop-device.invariant.1 before has in
          let set = c.in_ok-add_device.ensures.adds clean so_far.0 in
          let added = device_added (take c.loop-device.device-index all) item old.now mid.now new.now so_far.1 set.1 in
          (set.0, subst (λ (l : List Device). AddsDevices l old.now new.now) (ap (λ (it : Device). take c.loop-device.device-index all ++ it ∷ []) c.device-item.is ∙ sym (take_more all c.loop-device.device-index item c.loop-device-test.true)) added),
    )
