-- Rule: What may stand behind a head where a body is expected, and what it is read as.
use Rattle.std.specs.Prelude.{◌≡◌, ℕ, ◌<◌, ◌≤◌, List, ◌++◌, length}
use Rattle.httparse.specs.Grammar.{ChunkLine, print_chunk_line}
use Rattle.input_http.specs.Limits.{longest_body}
use Rattle.listen_http.specs.Chunks.{Chunk, AreChunks, IsLast, IsNoChunk, IsTooLongWith}
use Rattle.listen_http.specs.Trailers.{Section, AreTrailers, HasNoTrailers, print_trailers}
use Rattle.listen_http.specs.declared.framing.Framing.{Framing}
use Rattle.listen_http.specs.declared.framing.Framing.TheVariants.{Length, Chunked}

-- chunks of these bytes, the line of size 0 and trailers, and then the rest
pub record IsChunkedBody (b body rest : List ℕ) : Type 0 where
  pub chunks : List Chunk
  pub text : List ℕ
  pub last : ChunkLine
  pub trailers : Section
  pub are_chunks : AreChunks chunks text body
  pub is_last : IsLast last
  pub are_trailers : AreTrailers trailers
  pub fits : length body ≤ longest_body
  pub spelled : b ≡ (text ++ print_chunk_line last) ++ print_trailers trailers ++ rest

-- the body, and what follows it
abbrev pub HasBody : (framing : Framing) (b body rest : List ℕ) → Type 0
HasBody (Length n) b body rest = (b ≡ body ++ rest) × (length body ≡ n)
HasBody Chunked b body rest = IsChunkedBody b body rest

-- chunks, and something after them
abbrev pub HasBehindChunks : (b : List ℕ) (P : List ℕ → List ℕ → Type 0) → Type 0
HasBehindChunks b P = (chunks : List Chunk) × (text : List ℕ) × (body : List ℕ) × (behind : List ℕ)
    × AreChunks chunks text body × (length body ≤ longest_body)
    × (b ≡ text ++ behind) × P body behind

-- the line of size 0, and then no trailers
abbrev pub EndsBadly : List ℕ → Type 0
EndsBadly b = (last : ChunkLine) × (rest : List ℕ) × IsLast last
    × (b ≡ print_chunk_line last ++ rest) × HasNoTrailers rest

-- something that is no body: the end, or chunks that are none
pub data IsNoBody (b : List ℕ) : Framing → Type 0 where
  is_short : (n : ℕ) → length b < n → IsNoBody b (Length n)
  has_no_chunk : HasBehindChunks b (λ body behind. IsNoChunk (length body) behind)
      → IsNoBody b Chunked
  has_no_trailers : HasBehindChunks b (λ body behind. EndsBadly behind) → IsNoBody b Chunked

-- chunks that make it too long
abbrev pub IsTooLongBody : List ℕ → Type 0
IsTooLongBody b = HasBehindChunks b (λ body behind. IsTooLongWith (length body) behind)
