use Rattle.std.proofs.Common.{◌≡◌, ◌-◌, ◌≤◌, length, vec_len}
use Rattle.httparse.specs.Grammar.{HasNoRequest}
use Rattle.input_fields.specs.Streams.{Yields}
use Rattle.listen_http.specs.ProofKinds.{has_space}
use Rattle.listen_http.proofs.head.read_head.Given as goal

abbrev pub invariant-bytes : goal.invariant-bytes
invariant-bytes g l = record {
  within : length l.text.items ≤ 16384;
  room : length l.headers ≡ length l.fn.headers;
  space : l.has_space ≡ has_space l.text.items;
  none : HasNoRequest l.text.items;
  took : Yields (g.R.Source.left l.fn.reader) (g.R.Source.left l.reader) l.text.items;
  count : g.R.Source.failures l.reader ≡ g.R.Source.failures l.fn.reader;
}

abbrev pub decreases-bytes : goal.decreases-bytes
decreases-bytes g l = 16384 - vec_len l.text
