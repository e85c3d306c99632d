use Rattle.std.proofs.Common.{◌≡◌, ◌++◌, take, flat_map}
use Rattle.page_pages.specs.DeskDevices.{desk_row}
use Rattle.page_pages.proofs.desk_devices.put_desk_rows.Given as goal

-- the rows so far
abbrev pub invariant-loop-device : goal.invariant-loop-device
invariant-loop-device l = l.out.items ≡ l.fn.out.items ++ flat_map desk_row (take l.device-index l.devices)
