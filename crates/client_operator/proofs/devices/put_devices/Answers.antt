use Rattle.std.proofs.Common.{[], ◌∷◌, ap, append-nil, append_assoc, map, refl, rules, sym, ◌++◌, ◌∙◌}
use Rattle.std.specs.List.{flat_map}
use Rattle.std.proofs.lemmas.Grind.{flat_map-append}
use Rattle.std.proofs.lemmas.List.{map-append}
use Rattle.client_operator.specs.Devices.{device_text, device_told}
use Rattle.client_operator.proofs.Turns.{map-take_one}
use Rattle.client_operator.proofs.devices.put_devices.Goals as goal

pub loop-line-init : goal.loop-line-init
loop-line-init c = ([], refl, sym (append-nil c.args.records.now.items))

pub loop-line-preserved : goal.loop-line-preserved
loop-line-preserved c =
    let before = c.loop-line.invariant in
    let put = c.in_ok-put_device.ensures in
    let line = c.line-item.result in
    let longer = map-take_one (λ line. line.items) c.args.lines.now c.loop-line.line-index line (search rules) c.line-item.is in (
      before.0 ++ put.0 ∷ [],
      longer ∙ ap (λ l. l ++ line.items ∷ []) before.1
          ∙ ap (λ l. map device_told before.0 ++ l ∷ []) (sym c.as_slice.ensures.value ∙ put.1)
          ∙ sym (map-append device_told before.0 (put.0 ∷ [])),
      put.2 ∙ ap (λ l. l ++ device_text put.0) before.2
          ∙ append_assoc c.args.records.now.items (flat_map device_text before.0) (device_text put.0)
          ∙ ap (λ l. c.args.records.now.items ++ l)
          (ap (λ l. flat_map device_text before.0 ++ l) (sym (append-nil (device_text put.0)))
          ∙ sym (flat_map-append device_text before.0 (put.0 ∷ []))),
    )
