-- Rule: The parts of the word for a door of `serve` (this project's own).
use Rattle.std.specs.Prelude.{◌≡◌, ◌==◌, ℕ, Bool, true, false, List, ◌∷◌, ◌++◌, IsTrue}
use Rattle.std.specs.List.{list_all, slice_split}
use Rattle.account_rules.specs.Names.{is_name}

-- a device's name
abbrev pub is_device : List ℕ → Bool
is_device name = is_name name

-- names of devices, at least one; one comma parts them
abbrev pub are_devices : (text : List ℕ) → Bool
are_devices text = list_all is_device (slice_split (λ b. b == 44) text)

-- Where a door is for some devices alone their names stand before its address, and an equals sign
-- between. Else the word is the address.
abbrev pub SaysPlace : (names : Bool) (word devices address : List ℕ) → Type 0
SaysPlace true word devices address =
    (word ≡ devices ++ 61 ∷ address) × IsTrue (are_devices devices)
SaysPlace false word devices address = address ≡ word
