-- Rule: Who comes in by the doors of `serve`, and by which address (this project's own).
use Rattle.std.specs.Prelude.{◌≡◌, ◌⊎◌, ◌&&◌, ◌||◌, ◌==◌, ℕ, Bool, true, false, if◌then◌else◌, IsTrue, length, List, [], ◌∷◌, codes, nat_lt, Option, Some, None}
use Rattle.std.specs.Char.{is_ascii_alphanumeric}
use Rattle.std.specs.List.{list_all, list_any, slice_split}
use Rattle.std.specs.Str.{bytes_eq}
use Rattle.cli_words.specs.Addresses.{IsAddressOf, is_all_digits}
use Rattle.cli_words.specs.ServedWords.{SaysPlace}
use Rattle.cli_words.specs.declared.served_door.ServedDoor.{ServedDoor}
use Rattle.cli_words.specs.declared.visitors.Visitors.{Visitors}
use Rattle.cli_words.specs.declared.visitors.Visitors.TheVariants.{BoundStations, Clients, Desk, Operators, Pages, Stations}

abbrev pub name_of : Visitors → List ℕ
name_of Clients = codes "clients"
name_of Pages = codes "pages"
name_of Desk = codes "desk"
name_of Stations = codes "stations"
name_of BoundStations = codes "station"
name_of Operators = codes "operators"

-- the word behind which an address of theirs stands
abbrev pub option_of : Visitors → List ℕ
option_of Clients = codes "--clients"
option_of Pages = codes "--pages"
option_of Desk = codes "--desk"
option_of Stations = codes "--stations"
option_of BoundStations = codes "--station"
option_of Operators = codes "--operators"

-- who comes for some devices alone
abbrev pub names_devices : Visitors → Bool
names_devices Clients = false
names_devices Pages = false
names_devices Desk = false
names_devices Stations = false
names_devices BoundStations = true
names_devices Operators = false

-- the door is theirs, at the address in the word, and for the devices that it names there
pub record IsDoorOf (whose : Visitors) (word : List ℕ) (door : ServedDoor) : Type 0 where
  pub visitors : door.visitors ≡ whose
  pub place : List ℕ
  pub says : SaysPlace (names_devices whose) word door.devices.now place
  pub address : IsAddressOf place 0 door.address

-- the word behind which the file of the log stands, and that behind which `required` stands, where the
-- pages are to take no file without a PIN
abbrev pub log_option : List ℕ
log_option = codes "--log"

abbrev pub pin_option : List ℕ
pin_option = codes "--pages-pin"

abbrev pub is_required : (value : List ℕ) → Bool
is_required value = bytes_eq value (codes "required")

-- the word behind which names of Hosts stand
abbrev pub host_option : List ℕ
host_option = codes "--host"

-- what a host in an address is spelled with (RFC 3986 section 3.2.2), with its port; no percent-encoding
abbrev pub is_host_byte : ℕ → Bool
is_host_byte byte = is_ascii_alphanumeric byte || list_any (λ mark. mark == byte) (codes "-._:[]")

abbrev pub is_host : List ℕ → Bool
is_host name = nat_lt 0 (length name) && list_all is_host_byte name

-- names of hosts, at least one; one comma parts them
abbrev pub are_hosts : (value : List ℕ) → Bool
are_hosts value = list_all is_host (slice_split (λ b. b == 44) value)

-- these three are no door
abbrev pub is_no_door : (name value : List ℕ) → Bool
is_no_door name value = bytes_eq name log_option || ((bytes_eq name pin_option && is_required value)
    || (bytes_eq name host_option && are_hosts value))

-- options, each a name and its value, are these doors, in order
abbrev pub AreOptions : (words : List (List ℕ)) (doors : List ServedDoor) → Type 0
AreOptions [] doors = doors ≡ []
AreOptions (word ∷ []) doors = ⊥
AreOptions (name ∷ value ∷ words) doors =
    (IsTrue (is_no_door name value) × AreOptions words doors)
    ⊎ ((door : ServedDoor) × (more : List ServedDoor) × (doors ≡ door ∷ more)
    × (name ≡ option_of door.visitors) × IsDoorOf door.visitors value door × AreOptions words more)

-- the value of the first option of a name
abbrev pub value_among : (option : List ℕ) (options : List (List ℕ)) → Option (List ℕ)
value_among option [] = None
value_among option (word ∷ []) = None
value_among option (name ∷ value ∷ words) =
    if bytes_eq name option then Some value else value_among option words

-- behind the three addresses
abbrev pub value_behind : (option : List ℕ) (words : List (List ℕ)) → Option (List ℕ)
value_behind option (port ∷ stations ∷ operators ∷ options) = value_among option options
value_behind option _ = None

-- the port of clients, the addresses of stations and operators, and behind them options
abbrev pub AreDoors : (words : List (List ℕ)) (doors : List ServedDoor) → Type 0
AreDoors (port ∷ stations ∷ operators ∷ options) (first ∷ second ∷ third ∷ further) =
    IsTrue (is_all_digits port) × IsDoorOf Clients port first
    × IsDoorOf Stations stations second × IsDoorOf Operators operators third
    × AreOptions options further
AreDoors _ _ = ⊥
