use Rattle.std.proofs.Common.{◌≡◌, ◌-◌, ◌≤◌, List, ℕ, length}
use Rattle.input_fields.specs.Streams.{Yields}
use Rattle.listen_http.specs.Chunks.{AreChunks, Chunk}
use Rattle.listen_http.proofs.chunks.read_chunks.Given as goal

abbrev pub invariant-chunks : goal.invariant-chunks
invariant-chunks g l =
    (chunks : List Chunk) × (text : List ℕ) × AreChunks chunks text l.body.items
    × Yields (g.R.Source.left l.fn.reader) (g.R.Source.left l.reader) text
    × (length l.body.items ≤ 16842752)
    × (g.R.Source.failures l.reader ≡ g.R.Source.failures l.fn.reader)

abbrev pub decreases-chunks : goal.decreases-chunks
decreases-chunks g l = 16842752 - length l.body.items
