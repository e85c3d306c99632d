use Rattle.std.proofs.Common.{ℕ, ◌≤◌, Option, Some, None, length, arith}
use Rattle.input_fields.specs.Streams.{byte_list}
use Rattle.listen_http.proofs.Taking.{takes_text}
use Rattle.listen_http.proofs.head.read_byte.Goals as goal

one_at_most : (byte : Option ℕ) → length (byte_list byte) ≤ 1
one_at_most None = omega arith
one_at_most (Some byte) = omega arith

pub returns-in-Ok-clause-bounded : goal.returns-in-Ok-clause-bounded
returns-in-Ok-clause-bounded g c = takes_text (g.R.Source.left c.args.reader.now) (g.R.Source.left c.read_byte.new.reader) (byte_list c.in-Ok.byte) 1 c.in-Ok.ensures.took (one_at_most c.in-Ok.byte)
