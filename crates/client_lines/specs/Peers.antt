-- Rule: A connection, as contracts see it (all this project's own).
use Rattle.client_lines.specs.declared.peer.Peer.{Peer}

abbrev pub reader_of : {R W : Type 0} → Peer R W → R
reader_of peer = peer.reader

abbrev pub writer_of : {R W : Type 0} → Peer R W → W
writer_of peer = peer.writer
