-- Rule: A body in chunks (RFC 9112 section 7.1): lines that tell a size, each with so many bytes
-- and CR LF after it.
use Rattle.std.specs.Prelude.{◌≡◌, ℕ, ◌+◌, ◌<◌, ◌≤◌, List, ◌++◌, length}
use Rattle.std.specs.List.{flat_map, AllByRecursion}
use Rattle.httparse.specs.Ascii.{crlf_bytes}
use Rattle.httparse.specs.Grammar.{ChunkLine, IsChunkLine, print_chunk_line, chunk_size}
use Rattle.input_http.specs.Limits.{longest_body, longest_size_line}

pub record IsSizeLine (line : ChunkLine) : Type 0 where
  pub is_line : IsChunkLine line
  pub short : length (print_chunk_line line) ≤ longest_size_line

pub record Chunk : Type 0 where
  pub line : ChunkLine
  pub bytes : List ℕ

-- the line tells how many bytes it has, and it has some
pub record IsChunk (chunk : Chunk) : Type 0 where
  pub line : IsSizeLine chunk.line
  pub size : chunk_size chunk.line ≡ length chunk.bytes
  pub some : 0 < length chunk.bytes

abbrev pub print_chunk : Chunk → List ℕ
print_chunk chunk = print_chunk_line chunk.line ++ chunk.bytes ++ crlf_bytes

-- the text is chunks, which have these bytes together
pub record AreChunks (chunks : List Chunk) (text bytes : List ℕ) : Type 0 where
  pub each : AllByRecursion IsChunk chunks
  pub spelled : text ≡ flat_map print_chunk chunks
  pub together : bytes ≡ flat_map (λ chunk. chunk.bytes) chunks

-- no line that tells a size is at the front: one is refused, or too long, or the input ends
abbrev pub HasNoSizeLine : List ℕ → Type 0
HasNoSizeLine b =
    (line : ChunkLine) (rest : List ℕ) → IsSizeLine line → b ≡ print_chunk_line line ++ rest → ⊥

-- CR LF is not at the front
abbrev pub HasNoLineEnd : List ℕ → Type 0
HasNoLineEnd b = (rest : List ℕ) → b ≡ crlf_bytes ++ rest → ⊥

-- ---- after chunks of so many bytes that were read; the next one's line is judged before its bytes

-- in the place of the next chunk
pub data IsNoChunk (size : ℕ) (b : List ℕ) : Type 0 where
  has_no_line : HasNoSizeLine b → IsNoChunk size b
  -- the line, and fewer bytes than it tells
  is_cut : (line : ChunkLine) (bytes : List ℕ) → IsSizeLine line
      → size + chunk_size line ≤ longest_body → b ≡ print_chunk_line line ++ bytes
      → length bytes < chunk_size line → IsNoChunk size b
  -- the line, the bytes that it tells, and something else than CR LF
  has_no_end : (line : ChunkLine) (bytes rest : List ℕ) → IsSizeLine line → 0 < chunk_size line
      → size + chunk_size line ≤ longest_body → chunk_size line ≡ length bytes
      → b ≡ print_chunk_line line ++ bytes ++ rest → HasNoLineEnd rest → IsNoChunk size b

-- a chunk that makes the body too long
abbrev pub IsTooLongWith : (size : ℕ) (b : List ℕ) → Type 0
IsTooLongWith size b = (line : ChunkLine) × (rest : List ℕ) × IsSizeLine line
    × (b ≡ print_chunk_line line ++ rest) × (longest_body < size + chunk_size line)

-- the line of size 0, which ends the chunks
abbrev pub IsLast : ChunkLine → Type 0
IsLast line = IsSizeLine line × (chunk_size line ≡ 0)
