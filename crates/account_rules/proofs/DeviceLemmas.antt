-- A list of devices as one record of it changes, or one more is added.
use Rattle.std.proofs.Common.{◌≡◌, ℕ, ◌<◌, ◌≤◌, Bool, true, false, if◌then◌else◌, nat_eq, nat_lt, List, [], ◌∷◌, ◌++◌, length, Option, Some, None, position, slice_set, slice_index_or, refl, sym, ap, ◌∙◌, arith}
use Rattle.std.specs.List.{position_or_len, slice_get}
use Rattle.std.specs.Cmp.Lexicographic.{pointwise, bytes_decides}
use Rattle.std.specs.Option.{option_or, option_map_or}
use Rattle.std.proofs.lemmas.List.Folds.{find_at, find-set, find_past, find-append}
use Rattle.std.proofs.lemmas.List.Quantifiers.{position-Some}
use Rattle.std.proofs.lemmas.Option.{slice_get-get_or, slice_get_past}
use Rattle.std.proofs.lemmas.Bool.Decides.{nat_tests}
use Rattle.account_rules.specs.declared.device.Device.{Device}
use Rattle.std.specs.List.{find}
use Rattle.std.specs.Cmp.Lexicographic.{nat_list_cmp_total}
use Rattle.std.specs.FinMap.{insert, contains_key, get-insert, same_map}
use Rattle.std.specs.Prelude.{is_some}
use Rattle.account_rules.specs.Devices.{is_of_name, device_map, rate_of, is_on_in, switched, rated}
use Rattle.account_rules.proofs.DeviceMaps.{get_device, named, names_exact}

-- the first record of the name
abbrev device_at : List Device → List ℕ → Option Device
device_at devices name = find (is_of_name name) devices

-- the name has this device, and each other name what it had
abbrev SetsDevice : List Device → List Device → Device → Type 0
SetsDevice old new device =
    (name : List ℕ) → device_at new name ≡ (if pointwise nat_eq device.name name then Some device else device_at old name)

-- so it is inserted in the map
map_set : (old new : List Device) (device : Device) → SetsDevice old new device → device_map new ≡ insert (device_map old) device.name device
map_set old new device sets = same_map nat_list_cmp_total names_exact (device_map new) (insert (device_map old) device.name device) (λ name.
    get_device new name ∙ sets name
    ∙ (λ i. if sym (named device.name name) i then Some device else sym (get_device old name) i)
    ∙ sym (get-insert nat_list_cmp_total (device_map old) device.name device name))

place_is : (test : Device → Bool) (devices : List Device) (place : ℕ) → position test devices ≡ Some place → place ≡ position_or_len test devices
place_is test devices place =
    elim (nat_lt (position_or_len test devices) (length devices)) as (λ b. (if b then Some (position_or_len test devices) else None) ≡ Some place → place ≡ position_or_len test devices)
    [ true ↦ λ e. cc | false ↦ λ e. cc ]

-- the name of the record that is found
name_there : (name : List ℕ) (devices : List Device) (place : ℕ) (there : Device) → position (is_of_name name) devices ≡ Some place → there ≡ slice_index_or devices place there →
    there.name ≡ name
name_there name devices place there found is =
    (bytes_decides there.name name).0 (ap (is_of_name name) is ∙ (position-Some (is_of_name name) devices place there found).1)

-- what is found is what stands at the place
pub device_there : (name : List ℕ) (devices : List Device) (place : ℕ) (there : Device) → position (is_of_name name) devices ≡ Some place → there ≡ slice_index_or devices place there →
    device_at devices name ≡ Some there
device_there name devices place there found is =
    let within : place < length devices = (position-Some (is_of_name name) devices place there found).0 in
    find_at (is_of_name name) devices ∙ ap (slice_get devices) (sym (place_is (is_of_name name) devices place found)) ∙ slice_get-get_or devices place there within ∙ ap (λ d. Some d) (sym is)

past : (test : Device → Bool) (devices : List Device) → nat_lt (position_or_len test devices) (length devices) ≡ false → slice_get devices (position_or_len test devices) ≡ None
past test devices t =
    let beyond : length devices ≤ position_or_len test devices = grind (arith, nat_tests) in
    slice_get_past devices (position_or_len test devices) beyond

no_place : (test : Device → Bool) (devices : List Device) → position test devices ≡ None → slice_get devices (position_or_len test devices) ≡ None
no_place test devices =
    elim (nat_lt (position_or_len test devices) (length devices)) as (λ b. nat_lt (position_or_len test devices) (length devices) ≡ b → (if b then Some (position_or_len test devices) else None) ≡ None → slice_get devices (position_or_len test devices) ≡ None)
    [ true ↦ λ t e. cc | false ↦ λ t e. past test devices t ] refl

pub no_device_there : (name : List ℕ) (devices : List Device) → position (is_of_name name) devices ≡ None → device_at devices name ≡ None
no_device_there name devices none = find_at (is_of_name name) devices ∙ no_place (is_of_name name) devices none

-- the record at the place is written
pub device_set : (name : List ℕ) (devices : List Device) (place : ℕ) (there device : Device) → position (is_of_name name) devices ≡ Some place → there ≡ slice_index_or devices place there →
    device.name ≡ there.name → SetsDevice devices (slice_set devices place device) device
device_set name devices place there device found is same q = by_test (pointwise nat_eq device.name q) refl
  where
    by_test : (b : Bool) → pointwise nat_eq device.name q ≡ b → device_at (slice_set devices place device) q ≡ (if b then Some device else device_at devices q)
    by_test true e =
        let asked : name ≡ q = sym (name_there name devices place there found is) ∙ sym same ∙ (bytes_decides device.name q).0 e in
        find-set (is_of_name q) devices place device (place_is (is_of_name name) devices place found ∙ ap (λ n. position_or_len (is_of_name n) devices) asked)
        (position-Some (is_of_name name) devices place there found).0 e
    by_test false e =
        find_past (is_of_name q) devices place device there (sym (ap (is_of_name q) is) ∙ ap (λ n. pointwise nat_eq n q) (sym same) ∙ e) e

pushed : (b : Bool) (found : Option Device) (device : Device) → (b ≡ true → found ≡ None) → option_or found (if b then Some device else None) ≡ (if b then Some device else found)
pushed true found device none = rw (none refl) refl
pushed false found device none = elim found as (λ f. option_or f None ≡ f) [ None ↦ refl | Some d ↦ refl ]

-- one more record
pub device_pushed : (name : List ℕ) (devices : List Device) (device : Device) → position (is_of_name name) devices ≡ None → device.name ≡ name →
    SetsDevice devices (devices ++ device ∷ []) device
device_pushed name devices device none same q =
    find-append (is_of_name q) devices (device ∷ [])
    ∙ pushed (pointwise nat_eq device.name q) (device_at devices q) device
    (λ e. ap (device_at devices) (sym ((bytes_decides device.name q).0 e) ∙ same) ∙ no_device_there name devices none)

-- ---- over the maps

rate_is : (name : List ℕ) (devices : List Device) (found : Option Device) → device_at devices name ≡ found → option_map_or (λ (d : Device). d.rate) found 1 ≡ rate_of (device_map devices) name
rate_is name devices found is = ap (λ (o : Option Device). option_map_or (λ (d : Device). d.rate) o 1) (sym (get_device devices name ∙ is))

on_is : (name : List ℕ) (devices : List Device) (found : Option Device) → device_at devices name ≡ found → option_map_or (λ (d : Device). d.on) found false ≡ is_on_in (device_map devices) name
on_is name devices found is = ap (λ (o : Option Device). option_map_or (λ (d : Device). d.on) o false) (sym (get_device devices name ∙ is))

-- a known device is switched on or off
pub device_known : (name : List ℕ) (devices : List Device) (place : ℕ) (there : Device) (on : Bool) → position (is_of_name name) devices ≡ Some place → there ≡ slice_index_or devices place there →
    device_map (slice_set devices place (record there { on = on })) ≡ switched (device_map devices) name on
device_known name devices place there on found is =
    let rate : there.rate ≡ rate_of (device_map devices) name = rate_is name devices (Some there) (device_there name devices place there found is) in
    let named : there.name ≡ name = name_there name devices place there found is in
    map_set devices (slice_set devices place (record there { on = on })) (record there { on = on }) (device_set name devices place there (record there { on = on }) found is refl)
    ∙ (λ i. insert (device_map devices) (named i) (record { name = named i; on = on; rate = rate i }))

-- a device gets another rate
pub device_rated : (name : List ℕ) (devices : List Device) (place : ℕ) (there : Device) (units : ℕ) → position (is_of_name name) devices ≡ Some place → there ≡ slice_index_or devices place there →
    device_map (slice_set devices place (record there { rate = units })) ≡ rated (device_map devices) name units
device_rated name devices place there units found is =
    let on : there.on ≡ is_on_in (device_map devices) name = on_is name devices (Some there) (device_there name devices place there found is) in
    let named : there.name ≡ name = name_there name devices place there found is in
    map_set devices (slice_set devices place (record there { rate = units })) (record there { rate = units }) (device_set name devices place there (record there { rate = units }) found is refl)
    ∙ (λ i. insert (device_map devices) (named i) (record { name = named i; on = on i; rate = units }))

-- a device is added
pub device_new : (name : List ℕ) (devices : List Device) (on : Bool) → position (is_of_name name) devices ≡ None →
    device_map (devices ++ record { name = name; on = on; rate = 1 } ∷ []) ≡ switched (device_map devices) name on
device_new name devices on none =
    let rate : 1 ≡ rate_of (device_map devices) name = rate_is name devices None (no_device_there name devices none) in
    map_set devices (devices ++ record { name = name; on = on; rate = 1 } ∷ []) (record { name = name; on = on; rate = 1 }) (device_pushed name devices (record { name = name; on = on; rate = 1 }) none refl)
    ∙ (λ i. insert (device_map devices) name (record { name = name; on = on; rate = rate i }))

-- whether the name is known
pub is_known : (name : List ℕ) (devices : List Device) (place : ℕ) (there : Device) → position (is_of_name name) devices ≡ Some place → there ≡ slice_index_or devices place there →
    contains_key (device_map devices) name ≡ true
is_known name devices place there found is = ap is_some (get_device devices name ∙ device_there name devices place there found is)

pub is_unknown : (name : List ℕ) (devices : List Device) → position (is_of_name name) devices ≡ None → contains_key (device_map devices) name ≡ false
is_unknown name devices none = ap is_some (get_device devices name ∙ no_device_there name devices none)
