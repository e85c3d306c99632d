-- The statement that gives each device its rate: what its text means, and the row that it makes.
use Rattle.std.proofs.Common.{◌≡◌, ℕ, pos, List, [], ◌∷◌, drop, codes, refl}
use Rattle.sqlite_tied.specs.Compute.{everything}
use Rattle.sqlite_value.specs.declared.value.Value.TheVariants.{Null, Int, Text}
use Rattle.sqlite_value.specs.declared.keys.Collation.{Collation}
use Rattle.sqlite_value.specs.declared.keys.Collation.TheVariants.{Binary}
use Rattle.sqlite_value.specs.Order.{Row, column}
use Rattle.sqlite_sql.specs.Term.{Term, lit, col}
use Rattle.sqlite_schema.specs.declared.program.Program.{Program}
use Rattle.sqlite_schema.specs.declared.command.Command.TheVariants.{Insert}
use Rattle.sqlite_schema.specs.declared.command.Source.TheVariants.{Query}
use Rattle.sqlite_rules.specs.Cast.{cast_row}
use Rattle.sqlite.specs.Listing.{understood}
use Rattle.sqlite.proofs.Callers.{IsPlain, command_of}
use Rattle.rows_tables.specs.Places.{device_tree, device_column}
use Rattle.rows_tables.specs.Tables.{room_schema, rates}
use Rattle.rows_tables.specs.Queries.{shows_of}
use Rattle.rows_tables.specs.Cells.{units_cells}
use Rattle.rows_tables.proofs.Queries.{collated}
use Rattle.rows_tables.proofs.StatementParts.{cast_integer}

abbrev pub rate_text : List ℕ
rate_text = codes "INSERT INTO rates (device, units) SELECT name, 1 FROM device"

abbrev pub rate_shows : List Term
rate_shows = lit Null ∷ col 1 device_column.name ∷ lit (Int (pos 1)) ∷ []

abbrev pub by_bytes : List Collation
by_bytes = Binary ∷ Binary ∷ Binary ∷ []

abbrev pub of_devices : Program
of_devices = record { lets = []; body = collated device_tree [] rate_shows [] by_bytes }

pub rate_is : command_of (understood room_schema rate_text) ≡ Insert 6 (Query of_devices)
unfolding understood everything
rate_is = refl

pub rate_plain : IsPlain (understood room_schema rate_text)
unfolding understood everything
rate_plain = (refl, refl)

-- the row of a device that has such a name
pub remade : (x : Row) (t : List ℕ) → column x 1 ≡ Text t → drop 1 (cast_row rates (shows_of rate_shows [] x)) ≡ units_cells t 1
remade x t e = rw (e, cast_integer (pos 1)) refl
