use Rattle.std.proofs.Common.{◌≡◌, List, ◌++◌, map, take}
use Rattle.std.specs.List.{flat_map}
use Rattle.client_operator.specs.Devices.{Device, device_text, device_told}
use Rattle.client_operator.proofs.devices.put_devices.Given as goal

abbrev pub invariant-loop-line : goal.invariant-loop-line
invariant-loop-line l = (devices : List Device)
    × (map (λ line. line.items) (take l.line-index l.lines) ≡ map device_told devices)
    × (l.records.items ≡ l.initial.records.items ++ flat_map device_text devices)
