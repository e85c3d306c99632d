use Rattle.std.proofs.Common.{◌≡◌, ◌-◌, ◌≤◌, length}
use Rattle.arrayvec.specs.ArrayVec.{array_vec_len}
use Rattle.httparse.specs.Grammar.{HasNoChunkLine}
use Rattle.input_fields.specs.Streams.{Yields}
use Rattle.listen_http.proofs.chunks.read_size_line.Given as goal

abbrev pub invariant-bytes : goal.invariant-bytes
invariant-bytes g l = record {
  fits : length l.line.items ≤ 256;
  none : HasNoChunkLine l.line.items;
  took : Yields (g.R.Source.left l.fn.reader) (g.R.Source.left l.reader) l.line.items;
  count : g.R.Source.failures l.reader ≡ g.R.Source.failures l.fn.reader;
}

abbrev pub decreases-bytes : goal.decreases-bytes
decreases-bytes g l = 256 - array_vec_len l.line
