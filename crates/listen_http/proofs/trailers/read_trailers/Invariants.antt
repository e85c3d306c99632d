use Rattle.std.proofs.Common.{◌≡◌, ◌-◌, ◌≤◌, length}
use Rattle.arrayvec.specs.ArrayVec.{array_vec_len}
use Rattle.httparse.specs.Grammar.{HasNoSection}
use Rattle.input_fields.specs.Streams.{Yields}
use Rattle.listen_http.proofs.trailers.read_trailers.Given as goal

abbrev pub invariant-bytes : goal.invariant-bytes
invariant-bytes g l = record {
  fits : length l.text.items ≤ 4096;
  room : length l.headers ≡ 64;
  none : HasNoSection l.text.items;
  took : Yields (g.R.Source.left l.fn.reader) (g.R.Source.left l.reader) l.text.items;
  count : g.R.Source.failures l.reader ≡ g.R.Source.failures l.fn.reader;
}

abbrev pub decreases-bytes : goal.decreases-bytes
decreases-bytes g l = 4096 - array_vec_len l.text
