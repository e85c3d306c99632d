use Rattle.std.proofs.Common.{◌≡◌, false}
use Rattle.room_serve.proofs.Carried.{HasCalled}
use Rattle.room_serve.specs.Wires.{wire_has_ended, reader_of, writer_of}
use Rattle.cli_program.proofs.listening.serve_messages.Given as goal

abbrev pub invariant-messages : goal.invariant-messages
invariant-messages g l = record {
  going : wire_has_ended l.wire ≡ false;
  reads : g.R.Source.failures (reader_of l.wire) ≡ 0;
  writes : g.W.Sink.failures (writer_of l.wire) ≡ 0;
  called : HasCalled g.S.Store g.R.Source.left g.W.Sink.given l.served l.fn.wire l.wire l.fn.store l.store;
}
