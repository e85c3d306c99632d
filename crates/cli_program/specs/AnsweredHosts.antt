-- Rule: Which Hosts `serve` has the pages and the desk answer (this project's own).
use Rattle.std.specs.Prelude.{ℕ, Bool, true, false, List, ◌∷◌, ◌++◌, Option, None, Some, option_map}
use Rattle.std.specs.List.{list_any}
use Rattle.cli_program.specs.declared.serving.TheConstants.{OWN_HOSTS}
use Rattle.cli_words.specs.declared.address.Address.{Address}
use Rattle.cli_words.specs.declared.address.Address.TheVariants.{Port}
use Rattle.cli_words.specs.declared.served_door.ServedDoor.{ServedDoor}
use Rattle.cli_words.specs.declared.serving.Serving.{Serving}
use Rattle.cli_words.specs.declared.visitors.Visitors.{Visitors}
use Rattle.cli_words.specs.declared.visitors.Visitors.TheVariants.{Desk, Pages}

abbrev pub is_port : Address → Bool
is_port (Port port) = true
is_port _ = false

-- browsers come by the door, at the pages or the desk, and it is a port
abbrev pub is_page_port_of : Visitors → Address → Bool
is_page_port_of Pages address = is_port address
is_page_port_of Desk address = is_port address
is_page_port_of _ address = false

abbrev pub is_page_port : ServedDoor → Bool
is_page_port door = is_page_port_of door.visitors door.address

-- this machine's own names, and these
abbrev pub with_own : (names : List ℕ) → List ℕ
with_own names = OWN_HOSTS.now ++ 44 ∷ names

-- Who comes by a socket comes by another server, which judges by which name it was asked; so where no
-- names are said each is answered there.
abbrev pub hosts_from : (names : Option (List ℕ)) → (at_port : Bool) → Option (List ℕ)
hosts_from (Some names) at_port = Some (with_own names)
hosts_from None true = Some OWN_HOSTS.now
hosts_from None false = None

abbrev pub hosts_for : Serving → Option (List ℕ)
hosts_for asked = hosts_from (option_map (λ names. names.now) asked.hosts)
    (list_any is_page_port asked.doors.items)
