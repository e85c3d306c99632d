-- The rows of devices and the map that they are.
use Rattle.std.proofs.Common.{◌≡◌, ℕ, Bool, true, List, Option, Some, None, option_map, IfSome, IsTrue, ◌↔◌, refl, sym, ap, subst, ◌∙◌}
use Rattle.std.specs.Cmp.Lexicographic.{nat_list_cmp_total}
use Rattle.std.specs.FinMap.{get, same_map}
use Rattle.sqlite_value.specs.Order.{Row, column}
use Rattle.sqlite.specs.Effect.{Database}
use Rattle.account_rules.specs.declared.device.Device.{Device}
use Rattle.account_rules.specs.Devices.{Devices, is_some_on}
use Rattle.account_rules.proofs.DeviceMaps.{names_exact, same_test, some_value, value_there}
use Rattle.rows_tables.specs.Cells.{on_cells, device_cells, rate_cells}
use Rattle.rows_tables.specs.Devices.{device_at, HoldsDevices, IsDevice}
use Rattle.rows_tables.proofs.KeyedRows.{same_row}
use Rattle.rows_tables.proofs.ReadBackLemmas.{flag_back, rows_are_read_back}

no_row : {G : Type 0} (row : Row) → ◌≡◌ {A = Option Row} (Some row) None → G
no_row row e = cc

same_device : (o p : Option Device) → option_map device_cells o ≡ option_map device_cells p → option_map rate_cells o ≡ option_map rate_cells p → o ≡ p
same_device None None e f = refl
same_device None (Some b) e f = no_row (device_cells b) (sym e)
same_device (Some a) None e f = no_row (device_cells a) e
same_device (Some a) (Some b) e f = ap (λ (d : Device). Some d) (rows_are_read_back.devices a b (same_row e) (same_row f))

pub one_map : (db : Database) (a b : Devices) → HoldsDevices db a → HoldsDevices db b → a ≡ b
one_map db a b first second = same_map nat_list_cmp_total names_exact a b (λ name.
    same_device (get a name) (get b name) (sym (first.device_rows name) ∙ second.device_rows name) (sym (first.rate_rows name) ∙ second.rate_rows name))

-- a row that is on is that of a device that is
on_device : (name : List ℕ) (o : Option Device) → option_map device_cells o ≡ Some (on_cells name true) → (d : Device) × (o ≡ Some d) × (d.on ≡ true)
on_device name None e = no_row (on_cells name true) (sym e)
on_device name (Some d) e = (d, refl, flag_back d.on true (ap (λ row. column row 1) (same_row e)))

-- whether some row is on is whether some device of the map is
pub tells_some_on : (db : Database) (devices : Devices) (on : Bool) → IsTrue on ↔ ((name : List ℕ) × (device_at db name ≡ Some (on_cells name true))) → HoldsDevices db devices → on ≡ is_some_on devices
tells_some_on db devices on found held = same_test on (is_some_on devices) there back
  where
    there : on ≡ true → is_some_on devices ≡ true
    there is =
        let row = found.0 is in
        let it = on_device row.0 (get devices row.0) (sym (held.device_rows row.0) ∙ row.1) in
        value_there (λ (device : Device). device.on) devices row.0 it.0 it.1 it.2

    back : is_some_on devices ≡ true → on ≡ true
    back is =
        let it = some_value (λ (device : Device). device.on) devices is in
        let device : IsDevice it.name it.value = subst (λ (o : Option Device). IfSome o (IsDevice it.name)) it.is (held.are_devices it.name) in
        found.1 (it.name, held.device_rows it.name ∙ ap (option_map device_cells) it.is ∙ (λ i. Some (on_cells (device.named i) (it.passes i))))
