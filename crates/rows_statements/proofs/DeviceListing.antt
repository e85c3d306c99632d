-- All devices by name: what the walk over the table `device` shows, and what is gathered of it.
use Rattle.std.proofs.Common.{◌≡◌, ℕ, Bool, true, List, [], ◌∷◌, ◌++◌, map, drop, codes, Option, None, Some, option_map, IfSome, IsSome, IsTrue, refl, sym, ap, subst, ◌∙◌}
use Rattle.std.specs.List.{AllByRecursion}
use Rattle.std.specs.FinMap.{get, values}
use Rattle.std.proofs.lemmas.Bool.{true≢false}
use Rattle.sqlite_tied.specs.Compute.{everything}
use Rattle.sqlite_value.specs.declared.value.Value.TheVariants.{Text}
use Rattle.sqlite_value.specs.Order.{Row, column}
use Rattle.sqlite_sql.specs.Term.{Term, col}
use Rattle.sqlite_sql.specs.Query.{Query, Output, output}
use Rattle.sqlite_rules.specs.Lists.{Has}
use Rattle.sqlite_rules.proofs.ListLemmas.{all_has}
use Rattle.sqlite_rules.proofs.ProbeLemmas.{has_mapped, mapped_has}
use Rattle.sqlite.specs.Effect.{Database}
use Rattle.sqlite.specs.Listing.{understood}
use Rattle.account_rules.specs.Devices.{Devices}
use Rattle.account_rules.specs.Limits.{IsRate}
use Rattle.account_rules.specs.Names.{is_name}
use Rattle.account_rules.specs.declared.device.Device.{Device}
use Rattle.rows_tables.specs.Places.{device_tree, device_column, cell}
use Rattle.rows_tables.specs.Tables.{room_schema}
use Rattle.rows_tables.specs.Keyed.{HasSchema}
use Rattle.rows_tables.specs.Queries.{Means, TakesParams, of_table, IsShownBy}
use Rattle.rows_tables.specs.Cells.{on_cells, device_cells, rate_cells, units_cells}
use Rattle.rows_tables.specs.Devices.{device_at, rate_at, HoldsDevices, IsDevice, AreSoundDevices}
use Rattle.rows_tables.proofs.KeyedRows.{same_row, text_at}
use Rattle.rows_tables.proofs.KeyedTables.{device_in, device_key}
use Rattle.rows_tables.proofs.Queries.{env}
use Rattle.rows_tables.proofs.ReadBackLemmas.{flag_back, rows_are_read_back}
use Rattle.rows_tables.proofs.Reading.{without_number}
use Rattle.rows_tables.proofs.RowOfKey.{at_its_key, there_at}
use Rattle.rows_statements.specs.DeviceLists.{shown_device, switch_of, ShowsDevices, ListsSwitch, refuses_switch, HasRate}
use Rattle.rows_statements.specs.Walks.{GathersAll, GathersShown, RefusesShown}
use Rattle.rows_statements.specs.SoundRows.{CanBeListed}
use Rattle.rows_statements.proofs.ListWalks.{gathered_so, gathered_each}
use Rattle.rows_statements.proofs.NamedMaps.{value_has, values_keep, values_rise}
use Rattle.rows_statements.proofs.NameOrder.{by_name, shown_of_row, shown_by_name}
use Rattle.rows_statements.proofs.WalkLemmas.{refused_there}

abbrev pub list_text : List ℕ
list_text = codes "SELECT name, accepting FROM device ORDER BY name"

abbrev pub list_shows : List Term
list_shows = col 1 device_column.name ∷ col 1 device_column.accepting ∷ []

abbrev pub list_names : List (List ℕ)
list_names = codes "name" ∷ codes "accepting" ∷ []

abbrev pub list_query : Query
list_query = of_table device_tree [] list_shows by_name

pub list_is : Means room_schema list_text list_query list_names 0
unfolding understood everything
list_is = record { is = refl; lists_nothing = refl; is_plain = (refl, refl); takes = refl; is_whole = refl }

pub list_takes : TakesParams room_schema list_query [] 0
list_takes = record { given = refl; typed = refl }

-- ---- what is shown

abbrev told_cells : Row → Output
told_cells cells = (cell device_column.name cells ∷ [], shown_device cells)

outputs_are : (r : Row) → output list_query (env [] r) ≡ told_cells (drop 1 r)
outputs_are [] = refl
outputs_are (v ∷ r) = refl

module _ (db : Database) (has : HasSchema db) where
  row_named : (r : Row) → Has (db.trees device_tree) r → (name : List ℕ) × (column r device_column.name ≡ Text name)
  row_named r there = text_at device_in db has r there 0 (codes "name") refl

  row_at_name : (r : Row) → Has (db.trees device_tree) r → (name : List ℕ) → column r device_column.name ≡ Text name → device_at db name ≡ Some (drop 1 r)
  row_at_name r there name is = at_its_key device_in db has (Text name ∷ []) refl (device_key name) (refl, tt) r there (is, tt)

  module _ (devices : Devices) (held : HoldsDevices db devices) where
    under_its_name : (name : List ℕ) (d : Device) → get devices name ≡ Some d → d.name ≡ name
    under_its_name name d is = (subst (λ (o : Option Device). IfSome o (IsDevice name)) is (held.are_devices name)).named

    got_by_name : AllByRecursion (λ (d : Device). get devices d.name ≡ Some d) (values devices)
    got_by_name = values_keep devices (λ (d : Device). get devices d.name ≡ Some d) (λ name d is. ap (get devices) (under_its_name name d is) ∙ is)

    row_found : (r : Row) → Has (db.trees device_tree) r → (d : Device) × Has (values devices) d × (output list_query (env [] r) ≡ (Text d.name ∷ [], device_cells d))
    row_found r there =
        let name = row_named r there in
        of_device (get devices name.0) refl (sym (row_at_name r there name.0 name.1) ∙ held.device_rows name.0) name.0
      where
        of_device : (o : Option Device) → get devices (row_named r there).0 ≡ o → Some (drop 1 r) ≡ option_map device_cells (get devices (row_named r there).0) → (name : List ℕ) → (d : Device) × Has (values devices) d × (output list_query (env [] r) ≡ (Text d.name ∷ [], device_cells d))
        of_device None is e name = absurd (let no = e ∙ ap (option_map device_cells) is in cc)
        of_device (Some d) is e name = (d, value_has devices (row_named r there).0 d is, outputs_are r ∙ ap told_cells (same_row (e ∙ ap (option_map device_cells) is)))

    row_from : (d : Device) → Has (values devices) d → (r : Row) × Has (db.trees device_tree) r × (true ≡ true) × (output list_query (env [] r) ≡ (Text d.name ∷ [], device_cells d))
    row_from d h =
        let is : get devices d.name ≡ Some d = all_has (λ (d : Device). get devices d.name ≡ Some d) (values devices) d got_by_name h in
        let it = there_at device_in db has (Text d.name ∷ []) refl (device_key d.name) (refl, tt) (device_cells d) (held.device_rows d.name ∙ ap (option_map device_cells) is) in
        (it.row, it.there, refl, outputs_are it.row ∙ ap told_cells it.are_cells)

  pub shows_devices : (rows : List Row) → IsShownBy list_query db.trees [] rows → ShowsDevices db rows
  shows_devices rows answer = record {
    of_map = λ devices held.
        shown_by_name device_tree [] list_shows list_query.limit [] device_in device_key (λ db has r there. text_at device_in db has r there 0 (codes "name") refl) (λ (d : Device). d.name) device_cells db has rows answer (values devices)
        (values_rise devices (λ (d : Device). d.name) (under_its_name devices held)) (λ r there _. row_found devices held r there) (row_from devices held);
    are_rows = λ row h.
        let r = shown_of_row device_tree [] list_shows list_query.limit [] db.trees rows answer row h in
        (drop 1 r.0, mapped_has (drop 1) (db.trees device_tree) r.0 r.1, r.3 ∙ ap (λ (o : Output). o.1) (outputs_are r.0));
  }

  -- ---- what is gathered

  told_so : (first : List (List ℕ × Bool)) (d : Device) (last : List (List ℕ × Bool)) → ListsSwitch first (device_cells d) last → last ≡ first ++ switch_of d ∷ []
  told_so first d last step =
      let name : step.switch.0 ≡ d.name = let e = step.told.name in cc in
      let on : step.switch.1 ≡ d.on = flag_back step.switch.1 d.on (sym step.told.on) in
      step.added ∙ (λ i. first ++ (name i, on i) ∷ [])

  module _ (first last : List (List ℕ × Bool)) (none : first ≡ []) (gathered : GathersShown ListsSwitch (λ _ row. refuses_switch row) (ShowsDevices db) first last) where
    pub switches_listed : (devices : Devices) → HoldsDevices db devices → last ≡ map switch_of (values devices)
    switches_listed devices held =
        gathered_so ListsSwitch device_cells switch_of told_so (values devices) first last (subst (λ rows. GathersAll ListsSwitch first rows last) (gathered.1.of_map devices held) gathered.2)
        ∙ ap (λ (l : List (List ℕ × Bool)). l ++ map switch_of (values devices)) none

    -- each is of a device
    pub switches_there : AllByRecursion (λ (switch : List ℕ × Bool). IsSome (device_at db switch.0)) last
    switches_there =
        gathered_each ListsSwitch (λ (switch : List ℕ × Bool). IsSome (device_at db switch.0)) gathered.0 (λ before row after h step.
        let cells = gathered.1.are_rows row h in
        let r = has_mapped (drop 1) (db.trees device_tree) cells.0 cells.1 in
        let is : column r.0 1 ≡ Text step.switch.0 = sym (without_number r.0 0) ∙ ap (λ l. column l 0) (sym r.2) ∙ ap (λ l. column l 0) (sym cells.2) ∙ step.told.name in
        (step.switch, subst (λ (o : Option Row). IsSome o) (sym (row_at_name r.0 r.1 step.switch.0 is)) refl, step.added)) first last (subst (AllByRecursion (λ (switch : List ℕ × Bool). IsSome (device_at db switch.0))) (sym none) tt) gathered.2

  pub switches_unsound : (first : List (List ℕ × Bool)) → RefusesShown ListsSwitch (λ _ row. refuses_switch row) (ShowsDevices db) first → CanBeListed db → ⊥
  switches_unsound first it listed =
      let cells = it.are_shown.are_rows it.row (refused_there it.given it.row it.more) in
      let told = listed.devices cells.0 cells.1 in
      let shown : it.row ≡ on_cells told.0.0 told.0.1 = cells.2 ∙ ap shown_device told.2 in
      it.refused told.0 told.1 (record { name = ap (λ l. column l 0) shown; on = ap (λ l. column l 1) shown })

  -- sound rows can be listed
  pub devices_listed : AreSoundDevices db → CanBeListed db
  devices_listed (devices, held) = record {
    devices = λ cells h.
        let r = has_mapped (drop 1) (db.trees device_tree) cells h in
        let name = row_named r.0 r.1 in
        of_row name.0 cells (get devices name.0) refl (ap Some r.2 ∙ sym (row_at_name r.0 r.1 name.0 name.1) ∙ held.device_rows name.0);
    rates = λ name some. rate_there name (get devices name) refl (subst (λ (o : Option Row). IsSome o) (held.device_rows name) some);
  }
    where
      is_device : (name : List ℕ) (d : Device) → get devices name ≡ Some d → IsDevice name d
      is_device name d is = subst (λ (o : Option Device). IfSome o (IsDevice name)) is (held.are_devices name)

      of_row : (name : List ℕ) (cells : Row) (o : Option Device) → get devices name ≡ o → Some cells ≡ option_map device_cells (get devices name) → (it : List ℕ × Bool) × IsTrue (is_name it.0) × (cells ≡ on_cells it.0 it.1)
      of_row name cells None is e = absurd (let no = e ∙ ap (option_map device_cells) is in cc)
      of_row name cells (Some d) is e =
          let it = is_device name d is in
          (switch_of d, subst (λ n. IsTrue (is_name n)) (sym it.named) it.is_a_name, same_row (e ∙ ap (option_map device_cells) is))

      rate_there : (name : List ℕ) (o : Option Device) → get devices name ≡ o → IsSome (option_map device_cells (get devices name)) → (units : ℕ) × IsRate units × (rate_at db name ≡ Some (units_cells name units))
      rate_there name None is some = absurd (true≢false (sym (subst (λ (o : Option Device). IsSome (option_map device_cells o)) is some)))
      rate_there name (Some d) is some =
          let it = is_device name d is in
          (d.rate, (it.rate_from_one, it.rate_at_most), held.rate_rows name ∙ ap (option_map rate_cells) is ∙ ap (λ n. Some (units_cells n d.rate)) it.named)

-- ---- with their rates

pub rated_are : (db : Database) (devices listed : List Device) → map switch_of listed ≡ map switch_of devices → AllByRecursion (HasRate db) devices → AllByRecursion (HasRate db) listed → listed ≡ devices
rated_are db [] [] same these those = refl
rated_are db [] (l ∷ listed) same these those = absurd (let no = same in cc)
rated_are db (d ∷ devices) [] same these those = absurd (let no = same in cc)
rated_are db (d ∷ devices) (l ∷ listed) same these those =
    let head : switch_of l ≡ switch_of d = cc in
    let name : l.name ≡ d.name = ap (λ (s : List ℕ × Bool). s.0) head in
    let on : l.on ≡ d.on = ap (λ (s : List ℕ × Bool). s.1) head in
    let more : map switch_of listed ≡ map switch_of devices = cc in
    let one : l ≡ d = rows_are_read_back.devices l d (λ i. on_cells (name i) (on i)) (same_row (sym those.0 ∙ ap (rate_at db) name ∙ these.0)) in
    (λ i. one i ∷ rated_are db devices listed more these.1 those.1 i)

pub values_rated : (db : Database) (devices : Devices) → HoldsDevices db devices → AllByRecursion (HasRate db) (values devices)
values_rated db devices held = values_keep devices (HasRate db) (λ name d is.
    let named = (subst (λ (o : Option Device). IfSome o (IsDevice name)) is (held.are_devices name)).named in
    ap (rate_at db) named ∙ held.rate_rows name ∙ ap (option_map rate_cells) is)
