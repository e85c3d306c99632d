use Rattle.std.proofs.Common.{ap, map, refl, sym, ◌++◌, ◌∙◌}
use Rattle.std.specs.List.{flat_map}
use Rattle.client_operator.specs.Devices.{device_text, devices_head}
use Rattle.client_operator.proofs.AskedLists.{AsksList-of}
use Rattle.client_operator.proofs.Reported.{ReportsDevices-of}
use Rattle.client_operator.proofs.devices.report_devices.Goals as goal

pub returns : goal.returns
returns g c =
    let put = c.in_ok-put_devices.ensures in
    let told = sym (ap (map _) c.as_slice.ensures.value) ∙ put.1 in
    let text = flat_map device_text put.0 in
    let shown = c.as_slice-2.ensures.value ∙ put.2
    ∙ ap (λ l. l ++ text) (c.in_ok-put_record.ensures ∙ ap (λ l. l ++ devices_head) c.new-records.ensures.items) in
    ReportsDevices-of c.print_text.result put.0 _ _ _ _
    (AsksList-of _ _ _ _ _ _ _ _ _ refl told c.in_ok-lines.ensures.sent c.in_ok-lines.ensures.heard)
    shown c.print_text.ensures
