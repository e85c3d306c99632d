-- Rule: The devices for which a door takes the lines of stations (this project's own).
use Rattle.std.specs.Prelude.{ℕ, ◌==◌, Bool, true, false, List, slice_get, Option, None, Some}
use Rattle.std.specs.List.{list_any, slice_split}
use Rattle.std.specs.Str.{bytes_eq}
use Rattle.serve_peers.specs.declared.line_connection.Side.{Side}
use Rattle.serve_peers.specs.declared.line_connection.Side.TheVariants.{Bound, Operator, Station}

-- a station's line names its device in the second field; one space parts the fields
abbrev pub device_of : (line : List ℕ) → Option (List ℕ)
device_of line = slice_get (slice_split (λ b. b == 32) line) 1

-- the device is one of the names; one comma parts the names
abbrev pub lists : (names device : List ℕ) → Bool
lists names device = list_any (λ name. bytes_eq name device) (slice_split (λ b. b == 44) names)

abbrev pub is_named : (names : List ℕ) → (device : Option (List ℕ)) → Bool
is_named names None = false
is_named names (Some device) = lists names device

-- a bound door takes lines for the devices that it names, any other door for all
abbrev pub is_own : Side → (line : List ℕ) → Bool
is_own (Bound names) line = is_named names.now (device_of line)
is_own Station line = true
is_own Operator line = true
