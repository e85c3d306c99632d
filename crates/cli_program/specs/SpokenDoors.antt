-- What `serve` has spoken at each door that its words name (this project's own).
use Rattle.std.specs.Prelude.{◌≡◌, ⊤, ℕ, List, [], ◌∷◌}
use Rattle.std.specs.Borrow.{Bor}
use Rattle.sqlite.specs.Held.{Held}
use Rattle.sqlite_trees.specs.declared.store.Store.{Ghosts}
use Rattle.cli_words.specs.declared.served_door.ServedDoor.{ServedDoor}
use Rattle.cli_words.specs.declared.serving.Serving.{Serving}
use Rattle.cli_words.specs.declared.visitors.Visitors.{Visitors}
use Rattle.cli_words.specs.declared.visitors.Visitors.TheVariants.{BoundStations, Clients, Desk, Operators, Pages, Stations}
use Rattle.cli_program.specs.AnsweredHosts.{hosts_for}
use Rattle.serve_peers.specs.Journals.{hosts_of}
use Rattle.serve_peers.specs.declared.line_connection.Side.TheVariants as side_is
use Rattle.serve_sockets.specs.EndToEnd.{ServesWhole}
use Rattle.serve_sockets.specs.declared.doors.Speech.{Speech}
use Rattle.serve_sockets.specs.declared.doors.Speech.TheVariants as speech_is

-- by whom; at a bound door it is a station's lines for the devices that the word names
abbrev pub IsSpokenBy : (visitors : Visitors) (devices : List ℕ) → Speech → Type 0
IsSpokenBy Clients devices speech = speech ≡ speech_is.Http
IsSpokenBy Pages devices speech = speech ≡ speech_is.Pages
IsSpokenBy Desk devices speech = speech ≡ speech_is.Desk
IsSpokenBy Stations devices speech = speech ≡ speech_is.Lines side_is.Station
IsSpokenBy BoundStations devices speech = (names : Bor (List ℕ)) × (names.now ≡ devices)
    × (speech ≡ speech_is.Lines (side_is.Bound names))
IsSpokenBy Operators devices speech = speech ≡ speech_is.Lines side_is.Operator

abbrev pub IsSpokenAt : ServedDoor → Speech → Type 0
IsSpokenAt door speech = IsSpokenBy door.visitors door.devices.now speech

-- at each door, in their order
abbrev pub AreSpoken : List ServedDoor → List Speech → Type 0
AreSpoken [] [] = ⊤
AreSpoken (door ∷ doors) (speech ∷ speeches) = IsSpokenAt door speech × AreSpoken doors speeches
AreSpoken _ _ = ⊥

-- a hall served over the tables; at its doors is spoken what the words name them for, and the pages
-- answer the Hosts that they say
pub record ServesAsked {S : Type 0} (store : Ghosts S) (asked : Serving) (old new : Held S)
    : Type 0 where
  pub whole : ServesWhole store old new
  pub spoken : AreSpoken asked.doors.items whole.doors
  pub hosts : hosts_of whole.before ≡ hosts_for asked
