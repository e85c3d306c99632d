use Rattle.std.proofs.Common.{◌≡◌, ◌+◌, ◌++◌, List, ℕ, length}
use Rattle.input_fields.specs.Streams.{Yields}
use Rattle.listen_http.proofs.body.read_into.Given as goal

abbrev pub invariant-pieces : goal.invariant-pieces
invariant-pieces g l =
    (length l.piece ≡ length l.fn.piece)
    × (bytes : List ℕ) × (length bytes + l.left ≡ l.count) × (l.body.items ≡ l.fn.body.items ++ bytes)
    × Yields (g.R.Source.left l.fn.reader) (g.R.Source.left l.reader) bytes
    × (g.R.Source.failures l.reader ≡ g.R.Source.failures l.fn.reader)

abbrev pub decreases-pieces : goal.decreases-pieces
decreases-pieces g l = l.left
