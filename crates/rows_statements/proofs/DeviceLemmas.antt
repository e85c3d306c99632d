-- The statements on the table `device`: what their texts mean, and what they leave.
use Rattle.std.proofs.Common.{◌≡◌, ◌≢◌, ℕ, Bool, List, [], ◌∷◌, codes, Option, None, Some, option_map, IfSome, refl, ap, subst, ◌∙◌}
use Rattle.std.specs.Prelude.{⊤}
use Rattle.std.specs.FinMap.{get}
use Rattle.sqlite_tied.specs.Compute.{everything}
use Rattle.sqlite_value.specs.declared.value.Value.TheVariants.{Text}
use Rattle.sqlite_value.specs.Order.{Row, column}
use Rattle.sqlite.specs.Effect.{Database}
use Rattle.sqlite.specs.Listing.{understood}
use Rattle.account_rules.specs.declared.device.Device.{Device}
use Rattle.rows_tables.specs.Places.{device_tree, device_column, cell}
use Rattle.rows_tables.specs.Tables.{room_schema}
use Rattle.rows_tables.specs.Queries.{Means, TakesParams, of_table}
use Rattle.rows_tables.specs.Cells.{flag, on_cells, device_cells}
use Rattle.rows_tables.specs.Devices.{device_at, IsDevice, AreSoundDevices}
use Rattle.rows_tables.proofs.KeyedTables.{device_in, device_key}
use Rattle.rows_tables.proofs.KeyedRows.{same_row}
use Rattle.rows_tables.proofs.Settings.{IsSetting}
use Rattle.rows_tables.proofs.StatementParts.{cast_integer}
use Rattle.rows_statements.specs.SoundRows.{IsRowOf}
use Rattle.rows_statements.proofs.NamedValues.{tests, shows, becomes, terms}

-- ---- the read by its key

abbrev pub find_text : List ℕ
find_text = codes "SELECT accepting FROM device WHERE name = ?1"

abbrev pub names : List (List ℕ)
names = codes "accepting" ∷ []

pub find_is : Means room_schema find_text (of_table device_tree tests shows []) names 1
unfolding understood everything
find_is = record { is = refl; lists_nothing = refl; is_plain = (refl, refl); takes = refl; is_whole = refl }

pub find_takes : (name : List ℕ) → TakesParams room_schema (of_table device_tree tests shows []) (Text name ∷ []) 1
find_takes name = record { given = refl; typed = refl }

-- ---- the write of one row

abbrev pub set_text : List ℕ
set_text = codes "INSERT INTO device (name, accepting) VALUES (?1, ?2) ON CONFLICT (name) DO UPDATE SET accepting = excluded.accepting"

pub sets : (name : List ℕ) (value : Bool) → IsSetting (Text name ∷ []) (flag value ∷ []) device_in set_text becomes terms
unfolding understood everything
sets name value = record { command = refl; is_plain = (refl, refl); rows = refl; becomes = λ id there r. refl; exact = device_key name; kept = (refl, (cast_integer _, tt)) }

-- ---- what is read of the row

pub unsound : (db : Database) (name : List ℕ) (row : Row) → Some row ≡ option_map (λ cells. cell device_column.accepting cells ∷ []) (device_at db name) → ((value : Bool) → column row 0 ≢ flag value)
    → IsRowOf (on_cells name) (λ _. ⊤) (device_at db name) → ⊥
unsound db name row shown damaged (None, range, is) = absurd (let e = rw is at shown in cc)
unsound db name row shown damaged (Some on, range, is) = damaged on (ap (λ r. column r 0) (same_row (shown ∙ ap (option_map (λ cells. cell device_column.accepting cells ∷ [])) is)))

pub device_read : (db : Database) (name : List ℕ) → AreSoundDevices db → IsRowOf (on_cells name) (λ _. ⊤) (device_at db name)
device_read db name (devices, held) = of_map (get devices name) refl
  where
    of_map : (o : Option Device) → get devices name ≡ o → IsRowOf (on_cells name) (λ _. ⊤) (device_at db name)
    of_map None e = (None, tt, held.device_rows name ∙ ap (option_map device_cells) e)
    of_map (Some it) e =
        let kept : IsDevice name it = subst (λ o. IfSome o (IsDevice name)) e (held.are_devices name) in
        (Some it.on, tt, held.device_rows name ∙ ap (option_map device_cells) e ∙ ap (λ n. Some (on_cells n it.on)) kept.named)
