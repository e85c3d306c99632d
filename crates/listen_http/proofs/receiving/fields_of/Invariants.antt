use Rattle.std.proofs.Common.{◌≡◌, map, take}
use Rattle.httparse.specs.Spans.{header_bytes}
use Rattle.arrayvec.specs.ArrayVec.{array_vec_len}
use Rattle.listen_http.specs.Fields.{plain_field}
use Rattle.listen_http.proofs.receiving.fields_of.Given as goal

abbrev pub invariant-loop-header : goal.invariant-loop-header
invariant-loop-header l = record {
  same : map plain_field l.fields.items ≡ map (header_bytes l.text) (take l.header-index l.headers);
  count : array_vec_len l.fields ≡ l.header-index;
}
