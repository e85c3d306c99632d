-- What a change of a device makes of the map of devices.
use Rattle.std.proofs.Common.{◌≡◌, ◌≢◌, ℕ, ◌≤◌, Bool, true, false, cond, not, nat_eq, List, [], ◌∷◌, Option, Some, None, option_map, is_some, IfSome, IsTrue, refl, sym, ap, subst, ◌∙◌, arith}
use Rattle.std.specs.Option.{option_map_or}
use Rattle.std.specs.Cmp.Lexicographic.{nat_list_cmp_total, pointwise, bytes_decides}
use Rattle.std.specs.FinMap.{get, insert, contains_key, get-insert}
use Rattle.sqlite_value.specs.declared.value.Value.TheVariants.{Text}
use Rattle.sqlite_value.specs.Order.{Row}
use Rattle.sqlite.specs.Effect.{Database}
use Rattle.account_rules.specs.Limits.{most_rate}
use Rattle.account_rules.specs.Names.{is_name}
use Rattle.account_rules.specs.declared.device.Device.{Device}
use Rattle.account_rules.specs.Devices.{Devices, switched, rated}
use Rattle.account_rules.proofs.DeviceMaps.{named}
use Rattle.rows_tables.specs.Tables.{device as device_table, rates as rates_table}
use Rattle.rows_tables.specs.Keyed.{SetsRow}
use Rattle.rows_tables.specs.Cells.{flag, number, on_cells, units_cells, device_cells, rate_cells}
use Rattle.rows_tables.specs.Devices.{device_at, rate_at, HoldsDevices, IsDevice}
use Rattle.rows_statements.specs.Rows.{SetsDevice}
use Rattle.rows_statements.proofs.KeyTests.{is_at_text, text_met, text_here}
use Rattle.rows_statements.proofs.LeftAlone.{row_kept}

-- ---- one name of the map

name_here : (devices : Devices) (name : List ℕ) (it : Device) → get (insert devices name it) name ≡ Some it
name_here devices name it = get-insert nat_list_cmp_total devices name it name ∙ ap (λ b. cond b (Some it) (get devices name)) (named name name ∙ (bytes_decides name name).1 refl)

unnamed : (a b : List ℕ) → a ≢ b → (test : Bool) → pointwise nat_eq a b ≡ test → test ≡ false
unnamed a b apart true is = absurd (apart ((bytes_decides a b).0 is))
unnamed a b apart false is = refl

name_elsewhere : (devices : Devices) (name : List ℕ) (it : Device) (other : List ℕ) → name ≢ other → get (insert devices name it) other ≡ get devices other
name_elsewhere devices name it other apart =
    get-insert nat_list_cmp_total devices name it other ∙ ap (λ b. cond b (Some it) (get devices other)) (named name other ∙ unnamed name other apart (pointwise nat_eq name other) refl)

-- by whether a name is this one
by_name : (P : List ℕ → Type 0) (name other : List ℕ) → P name → (name ≢ other → P other) → P other
by_name P name other here elsewhere = elim (pointwise nat_eq name other) as (λ b. pointwise nat_eq name other ≡ b → P other) [
  | true ↦ λ is. subst P ((bytes_decides name other).0 is) here
  | false ↦ λ isnt. elsewhere (λ e. let no : false ≡ true = sym isnt ∙ (bytes_decides name other).1 e in cc)
] refl

-- a row for each device, where that of the name is set, or is right already
module _ (cells : Device → Row) (devices : Devices) (name : List ℕ) (it : Device) where
  set_name : (other : List ℕ) (test : Bool) (was new : Option Row) → (test ≡ true → name ≡ other) → (name ≡ other → test ≡ true) → was ≡ option_map cells (get devices other)
      → new ≡ cond test (Some (cells it)) was → new ≡ option_map cells (get (insert devices name it) other)
  set_name other true was new met here held is = is ∙ subst (λ n. Some (cells it) ≡ option_map cells (get (insert devices name it) n)) (met refl) (sym (ap (option_map cells) (name_here devices name it)))
  set_name other false was new met here held is =
      let apart : name ≢ other = λ e. let no : false ≡ true = here e in cc in
      is ∙ held ∙ sym (ap (option_map cells) (name_elsewhere devices name it other apart))

  keep_name : (row : List ℕ → Option Row) → ((other : List ℕ) → row other ≡ option_map cells (get devices other)) → option_map cells (get devices name) ≡ Some (cells it)
      → (other : List ℕ) → row other ≡ option_map cells (get (insert devices name it) other)
  keep_name row held right other =
      by_name (λ n. row n ≡ option_map cells (get (insert devices name it) n)) name other
      (held name ∙ right ∙ sym (ap (option_map cells) (name_here devices name it)))
      (λ apart. held other ∙ sym (ap (option_map cells) (name_elsewhere devices name it other apart)))

all_devices : (devices : Devices) (name : List ℕ) (it : Device) → ((n : List ℕ) → IfSome (get devices n) (IsDevice n)) → IsDevice name it → (other : List ℕ) → IfSome (get (insert devices name it) other) (IsDevice other)
all_devices devices name it are is other =
    by_name (λ n. IfSome (get (insert devices name it) n) (IsDevice n)) name other
    (subst (λ (o : Option Device). IfSome o (IsDevice name)) (sym (name_here devices name it)) is)
    (λ apart. subst (λ (o : Option Device). IfSome o (IsDevice other)) (sym (name_elsewhere devices name it other apart)) (are other))

-- ---- what is known of the name

abbrev turned_to : List ℕ → Bool → Option Device → Device
turned_to name on known = record { name = name; on = on; rate = option_map_or (λ (device : Device). device.rate) known 1 }

abbrev rated_to : List ℕ → ℕ → Option Device → Device
rated_to name units known = record { name = name; on = option_map_or (λ (device : Device). device.on) known false; rate = units }

turned_is : (name : List ℕ) (on : Bool) (known : Option Device) → IsTrue (is_name name) → IfSome known (IsDevice name) → IsDevice name (turned_to name on known)
turned_is name on None named is = record { named = refl; is_a_name = named; rate_from_one = omega arith; rate_at_most = omega arith }
turned_is name on (Some d) named is = record { named = refl; is_a_name = named; rate_from_one = is.rate_from_one; rate_at_most = is.rate_at_most }

rate_stays : (name : List ℕ) (on : Bool) (known : Option Device) → is_some known ≡ true → IfSome known (IsDevice name) → option_map rate_cells known ≡ Some (rate_cells (turned_to name on known))
rate_stays name on None there is = let no : ⊥ = cc in absurd no
rate_stays name on (Some d) there is = ap (λ n. Some (units_cells n d.rate)) is.named

on_stays : (name : List ℕ) (units : ℕ) (known : Option Device) → is_some known ≡ true → IfSome known (IsDevice name) → option_map device_cells known ≡ Some (device_cells (rated_to name units known))
on_stays name units None there is = let no : ⊥ = cc in absurd no
on_stays name units (Some d) there is = ap (λ n. Some (on_cells n d.on)) is.named

rate_of_new : (known : Option Device) → is_some known ≡ false → option_map_or (λ (device : Device). device.rate) known 1 ≡ 1
rate_of_new None unknown = refl
rate_of_new (Some d) unknown = let no : ⊥ = cc in absurd no

is_unknown : (b : Bool) → true ≡ not b → b ≡ false
is_unknown true is = let no : ⊥ = cc in absurd no
is_unknown false is = refl

is_known : (b : Bool) → false ≡ not b → b ≡ true
is_known true is = refl
is_known false is = let no : ⊥ = cc in absurd no

device_rows_kept : (name : List ℕ) (rest : Row) (old new : Database) → SetsRow rates_table (Text name ∷ rest) old new → (other : List ℕ) → device_at new other ≡ device_at old other
device_rows_kept name rest old new h other = row_kept device_table old new (h.rest.device (λ e. let no : ⊥ = cc in no)) (Text other ∷ [])

rate_rows_kept : (name : List ℕ) (rest : Row) (old new : Database) → SetsRow device_table (Text name ∷ rest) old new → (other : List ℕ) → rate_at new other ≡ rate_at old other
rate_rows_kept name rest old new h other = row_kept rates_table old new (h.rest.rates (λ e. let no : ⊥ = cc in no)) (Text other ∷ [])

-- ---- the changes

module _ (name : List ℕ) (named : IsTrue (is_name name)) (old new : Database) (devices : Devices) (held : HoldsDevices old devices) where
  on_set : (on : Bool) (mid : Database) (it : Device) → it.name ≡ name → it.on ≡ on → SetsRow device_table (on_cells name on) old mid → (other : List ℕ) → device_at mid other ≡ option_map device_cells (get (insert devices name it) other)
  on_set on mid it is_named is_on h other =
      set_name device_cells devices name it other (is_at_text name (flag on ∷ []) other) (device_at old other) (device_at mid other) (text_met name (flag on ∷ []) other)
      (λ e. subst (λ n. is_at_text name (flag on ∷ []) n ≡ true) e (text_here name (flag on ∷ []))) (held.device_rows other)
      (h.rows (Text other ∷ []) ∙ (λ i. cond (is_at_text name (flag on ∷ []) other) (Some (on_cells (sym is_named i) (sym is_on i))) (device_at old other)))

  rate_set : (units : ℕ) (mid : Database) (it : Device) → it.name ≡ name → it.rate ≡ units → SetsRow rates_table (units_cells name units) mid new → ((other : List ℕ) → rate_at mid other ≡ rate_at old other)
      → (other : List ℕ) → rate_at new other ≡ option_map rate_cells (get (insert devices name it) other)
  rate_set units mid it is_named is_rated h kept other =
      set_name rate_cells devices name it other (is_at_text name (number units ∷ []) other) (rate_at mid other) (rate_at new other) (text_met name (number units ∷ []) other)
      (λ e. subst (λ n. is_at_text name (number units ∷ []) n ≡ true) e (text_here name (number units ∷ []))) (kept other ∙ held.rate_rows other)
      (h.rows (Text other ∷ []) ∙ (λ i. cond (is_at_text name (number units ∷ []) other) (Some (units_cells (sym is_named i) (sym is_rated i))) (rate_at mid other)))

  pub switched_devices : (on is_new : Bool) → SetsDevice name on is_new old new → is_new ≡ not (contains_key devices name) → HoldsDevices new (switched devices name on)
  switched_devices on true turns is_new =
      let it : Device = turned_to name on (get devices name) in
      let unknown : is_some (get devices name) ≡ false = is_unknown (contains_key devices name) is_new in
      record {
        are_devices = all_devices devices name it held.are_devices (turned_is name on (get devices name) named (held.are_devices name));
        device_rows = λ other. device_rows_kept name (number 1 ∷ []) turns.with_device new turns.rate_row other ∙ on_set on turns.with_device it refl refl turns.device_row other;
        rate_rows = rate_set 1 turns.with_device it refl (rate_of_new (get devices name) unknown) turns.rate_row (rate_rows_kept name (flag on ∷ []) old turns.with_device turns.device_row);
      }
  switched_devices on false turns is_new =
      let it : Device = turned_to name on (get devices name) in
      let known : is_some (get devices name) ≡ true = is_known (contains_key devices name) is_new in
      record {
        are_devices = all_devices devices name it held.are_devices (turned_is name on (get devices name) named (held.are_devices name));
        device_rows = λ other. ap (λ (db : Database). device_at db other) turns.rate_row ∙ on_set on turns.with_device it refl refl turns.device_row other;
        rate_rows = keep_name rate_cells devices name it (rate_at new) (λ other. ap (λ (db : Database). rate_at db other) turns.rate_row ∙ rate_rows_kept name (flag on ∷ []) old turns.with_device turns.device_row other ∙ held.rate_rows other)
            (rate_stays name on (get devices name) known (held.are_devices name));
      }

  pub rated_devices : (units : ℕ) → (1 ≤ units) → (units ≤ most_rate) → SetsRow rates_table (units_cells name units) old new → contains_key devices name ≡ true → HoldsDevices new (rated devices name units)
  rated_devices units from_one at_most h known =
      let it : Device = rated_to name units (get devices name) in
      record {
        are_devices = all_devices devices name it held.are_devices (record { named = refl; is_a_name = named; rate_from_one = from_one; rate_at_most = at_most });
        device_rows = keep_name device_cells devices name it (device_at new) (λ other. device_rows_kept name (number units ∷ []) old new h other ∙ held.device_rows other) (on_stays name units (get devices name) known (held.are_devices name));
        rate_rows = rate_set units old it refl refl h (λ other. refl);
      }
