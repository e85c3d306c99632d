use Rattle.std.proofs.Common.{◌∙◌, ◌+◌, Bool, if◌then◌else◌, vec_len, sym, ap, position}
use Rattle.account_rules.specs.Devices.{is_of_name, device_map}
use Rattle.account_rules.proofs.DeviceLemmas.{device_known, device_new, is_known, is_unknown}
use Rattle.account_rules.proofs.device.set_device.Goals as goal

pub returns-in-Some-clause-switched : goal.returns-in-Some-clause-switched
returns-in-Some-clause-switched c =
    device_known c.args.name c.args.devices.now.items c.in-Some.place c.index_mut.result.now c.args.on
    (sym (c.in-Some.ensures ∙ ap (position (is_of_name c.args.name)) c.as_slice.ensures.value)) c.index_mut.ensures.value

pub returns-in_ok-push-in-None-clause-switched : goal.returns-in_ok-push-in-None-clause-switched
returns-in_ok-push-in-None-clause-switched c =
    ap device_map c.in_ok-push-in-None.ensures.items
    ∙ device_new c.args.name c.args.devices.now.items c.args.on (sym (c.in-None.ensures ∙ ap (position (is_of_name c.args.name)) c.as_slice.ensures.value))

pub returns-in-Some-clause-length : goal.returns-in-Some-clause-length
returns-in-Some-clause-length c =
    ap (λ (known : Bool). if known then vec_len c.args.devices.now else vec_len c.args.devices.now + 1)
    (sym (is_known c.args.name c.args.devices.now.items c.in-Some.place c.index_mut.result.now (sym (c.in-Some.ensures ∙ ap (position (is_of_name c.args.name)) c.as_slice.ensures.value)) c.index_mut.ensures.value))

pub returns-in_ok-push-in-None-clause-length : goal.returns-in_ok-push-in-None-clause-length
returns-in_ok-push-in-None-clause-length c =
    c.in_ok-push-in-None.ensures.len
    ∙ ap (λ (known : Bool). if known then vec_len c.args.devices.now else vec_len c.args.devices.now + 1)
    (sym (is_unknown c.args.name c.args.devices.now.items (sym (c.in-None.ensures ∙ ap (position (is_of_name c.args.name)) c.as_slice.ensures.value))))
