-- What a clause reads of a door: its kind, how many it lets in, and what is spoken there (this
-- project's own).
use Rattle.std.specs.Prelude.{◌≡◌, ⊤, ℕ, Bool, false, true, List, slice_get, Some}
use Rattle.serve_peers.specs.LinePeers.{lines_of}
use Rattle.serve_peers.specs.Lines.{side_of}
use Rattle.serve_sockets.specs.declared.door.Door.{Door}
use Rattle.serve_sockets.specs.declared.door.Door.TheVariants.{Tcp, Unix}
use Rattle.serve_sockets.specs.declared.doors.Entrance.{Entrance}
use Rattle.serve_sockets.specs.declared.doors.Kind.{Kind}
use Rattle.serve_sockets.specs.declared.doors.Speech.{Speech}
use Rattle.serve_sockets.specs.declared.doors.Speech.TheVariants as speech_is
use Rattle.serve_sockets.specs.declared.guest.Guest.{Guest}
use Rattle.serve_sockets.specs.declared.guest.Peer.{Peer}
use Rattle.serve_sockets.specs.declared.guest.Peer.TheVariants.{Desk, Http, Last, Lines, Pages}

abbrev pub kind_of : Entrance → Kind
kind_of entrance = entrance.kind

-- it is on a port of this machine, and no socket at a path
abbrev pub is_port : Door → Bool
is_port (Tcp listener) = true
is_port (Unix listener) = false

abbrev pub is_at_port : Entrance → Bool
is_at_port entrance = is_port entrance.door

-- the most peers who came in by it and are there
abbrev pub most_of : Entrance → ℕ
most_of entrance = (kind_of entrance).most

-- what is spoken there
abbrev pub speech_of : Entrance → Speech
speech_of entrance = (kind_of entrance).speech

-- it speaks this; or it is only told one last thing
abbrev pub Speaks : Peer → Speech → Type 0
Speaks (Http peer) speech_is.Http = ⊤
Speaks (Pages peer) speech_is.Pages = ⊤
Speaks (Desk peer) speech_is.Desk = ⊤
Speaks (Lines peer) (speech_is.Lines side) = side_of (lines_of peer) ≡ side
Speaks (Last peer) speech = ⊤
Speaks _ _ = ⊥

-- it speaks what the door is for by which it came in; each door is given by what is spoken there
abbrev pub IsByDoor : (doors : List Speech) → Guest → Type 0
IsByDoor doors guest = (speech : Speech) × (slice_get doors guest.door ≡ Some speech)
    × Speaks guest.peer speech
