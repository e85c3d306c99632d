-- The parts of a connection of HTTP, as contracts name them.
use Rattle.std.specs.Prelude.{Bool}
use Rattle.room_serve.specs.declared.wire.Wire.{Wire}

abbrev pub reader_of : {R W : Type 0} → Wire R W → R
reader_of wire = wire.reader

abbrev pub writer_of : {R W : Type 0} → Wire R W → W
writer_of wire = wire.writer

-- after Close, or any fault
abbrev pub wire_has_ended : {R W : Type 0} → Wire R W → Bool
wire_has_ended wire = wire.has_ended
