-- Rule: Which word of a command line is an address, a port or a path (this project's own).
use Rattle.std.specs.Prelude.{◌≡◌, ◌≤◌, ◌⊎◌, ℕ, Bool, true, false, List, [], nat_le, IsTrue}
use Rattle.std.specs.Char.{is_ascii_digit}
use Rattle.std.specs.List.{list_all}
use Rattle.std.specs.Str.Parse.{digits_value}
use Rattle.input_fields.specs.Fields.{IsDecimal}
use Rattle.cli_words.specs.declared.address.Address.{Address}
use Rattle.cli_words.specs.declared.address.Address.TheVariants.{Port, Path}

-- the last port of a machine
abbrev pub last_port : ℕ
last_port = 65535

-- decimal digits and nothing else
abbrev pub is_all_digits : List ℕ → Bool
is_all_digits word = list_all is_ascii_digit word

-- a decimal number that is a port, which is at least so much
abbrev pub IsPort : (word : List ℕ) (least : ℕ) → Type 0
IsPort word least = IsDecimal word × (least ≤ digits_value 10 word)
    × (digits_value 10 word ≤ last_port)

-- the address is that of the word: a port where it has digits alone, else a path
abbrev pub IsAddressOf : (word : List ℕ) (least : ℕ) → Address → Type 0
IsAddressOf word least (Port port) =
    IsTrue (is_all_digits word) × IsPort word least × (port ≡ digits_value 10 word)
IsAddressOf word least (Path path) = (is_all_digits word ≡ false) × (path.now ≡ word)

-- the word is no address: it is empty, or digits alone that are no such port
abbrev pub IsNoAddress : (word : List ℕ) (least : ℕ) → Type 0
IsNoAddress word least = (word ≡ [])
    ⊎ (IsTrue (is_all_digits word) × (IsPort word least → ⊥))

-- a port that is at least so much, or a path
abbrev pub has_port_from : (least : ℕ) → Address → Bool
has_port_from least (Port port) = nat_le least port
has_port_from least (Path path) = true
