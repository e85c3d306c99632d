-- Devices keep names and rates within the limits.
use Rattle.std.proofs.Common.{◌≡◌, ℕ, Bool, true, false, if◌then◌else◌, List, Option, Some, None, IsTrue, refl, sym, subst, ◌∙◌, arith}
use Rattle.std.specs.Cmp.Lexicographic.{bytes_decides, nat_list_cmp_total}
use Rattle.std.specs.FinMap.{contains_key, get, get-insert, insert}
use Rattle.std.specs.Option.{option_map_or}
use Rattle.std.specs.Ordering.{eq_by_cmp}
use Rattle.std.proofs.lemmas.Bool.Decides.{nat_tests}
use Rattle.account_machine.specs.DeviceEvents.{DeviceAnswer, device_answered}
use Rattle.account_machine.specs.Events.{DeviceEvent, OfDevice, Rate, Switch}
use Rattle.account_machine.specs.Fits.{fits}
use Rattle.account_machine.specs.Rates.{AreRated}
use Rattle.account_laws.specs.RoomsStay.{AreNamed}
use Rattle.account_rules.specs.Devices.{Devices, is_on_in, name_cmp, rate_of, rated}
use Rattle.account_rules.specs.Limits.{IsRate}
use Rattle.account_rules.specs.Names.{is_name}
use Rattle.account_rules.specs.declared.device.Device.{Device}
use Rattle.account_rules.proofs.DeviceMaps as maps

-- each has both
pub record AreDevices (devices : Devices) : Type 0 where
  pub named : AreNamed devices
  pub rated : AreRated devices

-- names that are compared as equal are
pub same_name : (key name : List ℕ) → eq_by_cmp name_cmp key name ≡ true → key ≡ name
same_name key name is = sym ((bytes_decides name key).0 (sym (maps.named name key) ∙ is))

-- a name and a rate where one device is another now
changed_named : (old : Devices) (name key : List ℕ) (changed device : Device) (same : Bool) → (same ≡ true → name ≡ key) → IsTrue (is_name name) → AreNamed old → (if same then Some changed else get old key) ≡ Some device → IsTrue (is_name key)
changed_named old name key changed device true this is named here = subst (λ (n : List ℕ). IsTrue (is_name n)) (this refl) is
changed_named old name key changed device false this is named here = named key device here

changed_rated : (old : Devices) (key : List ℕ) (changed device : Device) (same : Bool) → IsRate changed.rate → AreRated old → (if same then Some changed else get old key) ≡ Some device → IsRate device.rate
changed_rated old key changed device true is rated here = let this : changed ≡ device = cc in subst (λ (d : Device). IsRate d.rate) this is
changed_rated old key changed device false is rated here = rated key device here

-- one of them changes
changed_stay : (old : Devices) (name : List ℕ) (changed : Device) → IsTrue (is_name name) → IsRate changed.rate → AreDevices old → AreDevices (insert old name changed)
changed_stay old name changed is rate all = record {
  named = λ key device here. changed_named old name key changed device (eq_by_cmp name_cmp key name) (λ same. sym (same_name key name same)) is all.named (sym (get-insert nat_list_cmp_total old name changed key) ∙ here);
  rated = λ key device here. changed_rated old key changed device (eq_by_cmp name_cmp key name) rate all.rated (sym (get-insert nat_list_cmp_total old name changed key) ∙ here);
}

-- a device that is new has rate 1
rate_within : (devices : Devices) (name : List ℕ) (found : Option Device) → get devices name ≡ found → AreRated devices → IsRate (option_map_or (λ (device : Device). device.rate) found 1)
rate_within devices name None here rated = (omega arith, omega arith)
rate_within devices name (Some device) here rated = rated name device here

-- a rate that an event brings
units_within : (name : List ℕ) (units : ℕ) → IsTrue (fits (OfDevice name (Rate units))) → IsRate units
units_within name units fit = (grind (arith, nat_tests), grind (arith, nat_tests))

-- a device that is not known stays so
either : (known : Bool) (done none : DeviceAnswer) → AreDevices done.devices → AreDevices none.devices → AreDevices (if known then done else none).devices
either true done none changed same = changed
either false done none changed same = same

-- an event of a device
pub devices_stay : (devices : Devices) (name : List ℕ) (event : DeviceEvent) → IsTrue (is_name name) → IsTrue (fits (OfDevice name event)) → AreDevices devices → AreDevices (device_answered devices (OfDevice name event)).devices
devices_stay devices name (Switch on) is fit all =
    changed_stay devices name (record { name = name; on = on; rate = rate_of devices name }) is (rate_within devices name (get devices name) refl all.rated) all
devices_stay devices name (Rate units) is fit all =
    either (contains_key devices name) _ _ (changed_stay devices name (record { name = name; on = is_on_in devices name; rate = units }) is (units_within name units fit) all) all
