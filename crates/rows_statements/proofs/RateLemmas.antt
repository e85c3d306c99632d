-- The statements on the table `rates`: what their texts mean, and what they leave.
use Rattle.std.proofs.Common.{◌≡◌, ◌≢◌, ◌≤◌, ℕ, List, [], ◌∷◌, codes, Option, None, Some, option_map, IfSome, refl, ap, subst, ◌∙◌}
use Rattle.std.specs.FinMap.{get}
use Rattle.sqlite_tied.specs.Compute.{everything}
use Rattle.sqlite_value.specs.declared.value.Value.TheVariants.{Text}
use Rattle.sqlite_value.specs.Order.{Row, column}
use Rattle.sqlite.specs.Effect.{Database}
use Rattle.sqlite.specs.Listing.{understood}
use Rattle.account_rules.specs.Limits.{most_rate}
use Rattle.account_rules.specs.declared.device.Device.{Device}
use Rattle.rows_tables.specs.Places.{rates_tree, rate_column, cell}
use Rattle.rows_tables.specs.Tables.{room_schema}
use Rattle.rows_tables.specs.Queries.{Means, TakesParams, of_table}
use Rattle.rows_tables.specs.Cells.{number, units_cells, rate_cells}
use Rattle.rows_tables.specs.Devices.{rate_at, IsDevice, AreSoundDevices}
use Rattle.rows_tables.proofs.KeyedTables.{rates_in, rates_key}
use Rattle.rows_tables.proofs.KeyedRows.{same_row}
use Rattle.rows_tables.proofs.Settings.{IsSetting}
use Rattle.rows_tables.proofs.StatementParts.{cast_integer}
use Rattle.rows_statements.specs.SoundRows.{IsRowOf}
use Rattle.rows_statements.proofs.NamedValues.{tests, shows, becomes, terms}

-- ---- the read by its key

abbrev pub find_text : List ℕ
find_text = codes "SELECT units FROM rates WHERE device = ?1"

abbrev pub names : List (List ℕ)
names = codes "units" ∷ []

pub find_is : Means room_schema find_text (of_table rates_tree tests shows []) names 1
unfolding understood everything
find_is = record { is = refl; lists_nothing = refl; is_plain = (refl, refl); takes = refl; is_whole = refl }

pub find_takes : (name : List ℕ) → TakesParams room_schema (of_table rates_tree tests shows []) (Text name ∷ []) 1
find_takes name = record { given = refl; typed = refl }

-- ---- the write of one row

abbrev pub set_text : List ℕ
set_text = codes "INSERT INTO rates (device, units) VALUES (?1, ?2) ON CONFLICT (device) DO UPDATE SET units = excluded.units"

pub sets : (name : List ℕ) (value : ℕ) → IsSetting (Text name ∷ []) (number value ∷ []) rates_in set_text becomes terms
unfolding understood everything
sets name value = record { command = refl; is_plain = (refl, refl); rows = refl; becomes = λ id there r. refl; exact = rates_key name; kept = (refl, (cast_integer _, tt)) }

-- ---- what is read of the row

abbrev is_rate : ℕ → Type 0
is_rate units = (1 ≤ units) × (units ≤ most_rate)

pub unsound : (db : Database) (name : List ℕ) (row : Row) → Some row ≡ option_map (λ cells. cell rate_column.units cells ∷ []) (rate_at db name) → ((value : ℕ) → 1 ≤ value → value ≤ most_rate → column row 0 ≢ number value)
    → IsRowOf (units_cells name) is_rate (rate_at db name) → ⊥
unsound db name row shown damaged (None, range, is) = absurd (let e = rw is at shown in cc)
unsound db name row shown damaged (Some units, range, is) = damaged units range.0 range.1 (ap (λ r. column r 0) (same_row (shown ∙ ap (option_map (λ cells. cell rate_column.units cells ∷ [])) is)))

pub rate_read : (db : Database) (name : List ℕ) → AreSoundDevices db → IsRowOf (units_cells name) is_rate (rate_at db name)
rate_read db name (devices, held) = of_map (get devices name) refl
  where
    of_map : (o : Option Device) → get devices name ≡ o → IsRowOf (units_cells name) is_rate (rate_at db name)
    of_map None e = (None, tt, held.rate_rows name ∙ ap (option_map rate_cells) e)
    of_map (Some it) e =
        let kept : IsDevice name it = subst (λ o. IfSome o (IsDevice name)) e (held.are_devices name) in
        (Some it.rate, (kept.rate_from_one, kept.rate_at_most), held.rate_rows name ∙ ap (option_map rate_cells) e ∙ ap (λ n. Some (units_cells n it.rate)) kept.named)
