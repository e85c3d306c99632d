-- Devices are copied whole: what was written is their map.
use Rattle.std.proofs.Common.{◌≡◌, ◌⊎◌, ℕ, Bool, true, false, cond, List, [], ◌∷◌, ◌++◌, Option, Some, None, IfSome, option_map, refl, sym, ap, subst, ◌∙◌, inl, inr}
use Rattle.std.specs.List.{AllByRecursion}
use Rattle.std.specs.FinMap.{get, values}
use Rattle.sqlite_value.specs.declared.value.Value.TheVariants.{Text}
use Rattle.sqlite_value.specs.Order.{Row}
use Rattle.sqlite_rules.proofs.ListLemmas.{all_has}
use Rattle.sqlite.specs.Effect.{Database}
use Rattle.account_rules.specs.Devices.{Devices}
use Rattle.account_rules.specs.declared.device.Device.{Device}
use Rattle.rows_tables.specs.Tables.{device as device_table, rates as rates_table}
use Rattle.rows_tables.specs.Cells.{flag, number, device_cells, rate_cells}
use Rattle.rows_tables.specs.Devices.{device_at, rate_at, HoldsDevices, IsDevice}
use Rattle.rows_statements.specs.Alone.{OnlyDevices}
use Rattle.rows_statements.proofs.KeyTests.{is_at_text, text_met, text_here}
use Rattle.rows_statements.proofs.LeftAlone.{device_alone, devices_then, rate_alone, row_kept}
use Rattle.rows_statements.proofs.NamedMaps.{value_has, values_keep}
use Rattle.store_copy.specs.Copies.{CopiesDevices, HoldsNoDevice}
use Rattle.store_copy.specs.ProofRows.{AddsDevice, AddsDevices}

-- ---- one device more

-- where the test tells just its name, the row is what the map has, or what it was
by_test : (cells : Device → Row) (map : Devices) (d : Device) (name : List ℕ) (test : Bool) (was now : Option Row) → (test ≡ true → d.name ≡ name) → get map d.name ≡ Some d → now ≡ cond test (Some (cells d)) was
    → (now ≡ option_map cells (get map name)) ⊎ (now ≡ was)
by_test cells map d name true was now met there is = inl (is ∙ sym (ap (option_map cells) (ap (get map) (sym (met refl)) ∙ there)))
by_test cells map d name false was now met there is = inr is

module _ (map : Devices) where
  -- both rows of the name are those of what the map has
  record IsRight (name : List ℕ) (db : Database) : Type 0 where
    device : device_at db name ≡ option_map device_cells (get map name)
    rate : rate_at db name ≡ option_map rate_cells (get map name)

  module _ (d : Device) (there : get map d.name ≡ Some d) (a b : Database) (adds : AddsDevice d a b) where
    device_now : (name : List ℕ) → device_at b name ≡ device_at adds.with_device name
    device_now name = row_kept device_table adds.with_device b (adds.rate_row.rest.device (λ e. let no : ⊥ = cc in no)) (Text name ∷ [])

    rate_then : (name : List ℕ) → rate_at adds.with_device name ≡ rate_at a name
    rate_then name = row_kept rates_table a adds.with_device (adds.device_row.rest.rates (λ e. let no : ⊥ = cc in no)) (Text name ∷ [])

    device_of : (name : List ℕ) → (device_at b name ≡ option_map device_cells (get map name)) ⊎ (device_at b name ≡ device_at a name)
    device_of name = by_test device_cells map d name (is_at_text d.name (flag d.on ∷ []) name) (device_at a name) (device_at b name) (text_met d.name (flag d.on ∷ []) name) there (device_now name ∙ adds.device_row.rows (Text name ∷ []))

    rate_of : (name : List ℕ) → (rate_at b name ≡ option_map rate_cells (get map name)) ⊎ (rate_at b name ≡ rate_at adds.with_device name)
    rate_of name = by_test rate_cells map d name (is_at_text d.name (number d.rate ∷ []) name) (rate_at adds.with_device name) (rate_at b name) (text_met d.name (number d.rate ∷ []) name) there (adds.rate_row.rows (Text name ∷ []))

    still_right : (name : List ℕ) → IsRight name a → IsRight name b
    still_right name right = record {
      device = elim (device_of name) [ inl now ↦ now | inr same ↦ same ∙ right.device ];
      rate = elim (rate_of name) [ inl now ↦ now | inr same ↦ same ∙ rate_then name ∙ right.rate ];
    }

    set_row : (cells : Device → Row) (test : Bool) (was now : Option Row) → test ≡ true → now ≡ cond test (Some (cells d)) was → now ≡ option_map cells (get map d.name)
    set_row cells test was now met is = is ∙ ap (λ b. cond b (Some (cells d)) was) met ∙ sym (ap (option_map cells) there)

    now_right : IsRight d.name b
    now_right = record {
      device = set_row device_cells (is_at_text d.name (flag d.on ∷ []) d.name) (device_at a d.name) (device_at b d.name) (text_here d.name (flag d.on ∷ [])) (device_now d.name ∙ adds.device_row.rows (Text d.name ∷ []));
      rate = set_row rate_cells (is_at_text d.name (number d.rate ∷ []) d.name) (rate_at adds.with_device d.name) (rate_at b d.name) (text_here d.name (number d.rate ∷ [])) (adds.rate_row.rows (Text d.name ∷ []));
    }

  -- ---- all of a list

  abbrev AreThere : List Device → Type 0
  AreThere = AllByRecursion (λ (d : Device). get map d.name ≡ Some d)

  all_still : (devices : List Device) (a b : Database) → AreThere devices → AddsDevices devices a b → (name : List ℕ) → IsRight name a → IsRight name b
  all_still [] a b there same name right = subst (IsRight name) (sym same) right
  all_still (d ∷ devices) a b there (next, adds, rest) name right = all_still devices next b there.1 rest name (still_right d there.0 a next adds name right)

  all_right : (devices : List Device) (a b : Database) → AreThere devices → AddsDevices devices a b → AllByRecursion (λ (d : Device). IsRight d.name b) devices
  all_right [] a b there same = tt
  all_right (d ∷ devices) a b there (next, adds, rest) = (all_still devices next b there.1 rest d.name (now_right d there.0 a next adds), all_right devices next b there.1 rest)

devices_alone : (devices : List Device) (a b : Database) → AddsDevices devices a b → OnlyDevices a b
devices_alone [] a b same = subst (OnlyDevices a) (sym same) (record {
  accounts = λ name. record { same_account = refl; same_jobs = λ n. refl; same_documents = λ m n. refl; same_grants = λ n. refl };
  version = refl;
})
devices_alone (d ∷ devices) a b (next, adds, rest) =
    devices_then a next b (devices_then a adds.with_device next (device_alone d.name a adds.with_device _ adds.device_row) (rate_alone d.name adds.with_device next _ adds.rate_row)) (devices_alone devices next b rest)

module _ (source : Database) (devices : List Device) (a b : Database) (lists : (map : Devices) → HoldsDevices source map → devices ≡ values map) (adds : AddsDevices devices a b) where
  named_so : (map : Devices) → HoldsDevices source map → (name : List ℕ) (d : Device) → get map name ≡ Some d → d.name ≡ name
  named_so map held name d is = (subst (λ (o : Option Device). IfSome o (IsDevice name)) is (held.are_devices name)).named

  each_right : HoldsNoDevice a → (map : Devices) → HoldsDevices source map → (name : List ℕ) → IsRight map name b
  each_right none map held name = by (get map name) refl
    where
      there : AreThere map devices
      there = subst (AreThere map) (sym (lists map held)) (values_keep map (λ (d : Device). get map d.name ≡ Some d) (λ n d is. ap (get map) (named_so map held n d is) ∙ is))

      by : (o : Option Device) → get map name ≡ o → IsRight map name b
      by None e = all_still map devices a b there adds name (record { device = none.no_device name ∙ sym (ap (option_map device_cells) e); rate = none.no_rate name ∙ sym (ap (option_map rate_cells) e) })
      by (Some d) e =
          let all = subst (AllByRecursion (λ (d : Device). IsRight map d.name b)) (lists map held) (all_right map devices a b there adds) in
          subst (λ n. IsRight map n b) (named_so map held name d e) (all_has (λ (d : Device). IsRight map d.name b) (values map) d all (value_has map name d e))

  pub devices_copied : CopiesDevices source a b
  devices_copied = record {
    copied = λ none map held. record {
      are_devices = held.are_devices;
      device_rows = λ name. (each_right none map held name).device;
      rate_rows = λ name. (each_right none map held name).rate;
    };
    alone = devices_alone devices a b adds;
  }

pub device_added : (devices : List Device) (it : Device) (a b c : Database) → AddsDevices devices a b → AddsDevice it b c → AddsDevices (devices ++ it ∷ []) a c
device_added [] it a b c same adds = (c, subst (λ (db : Database). AddsDevice it db c) same adds, refl)
device_added (d ∷ devices) it a b c (next, first, rest) adds = (next, first, device_added devices it next b c rest adds)
