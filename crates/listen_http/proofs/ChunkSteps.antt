-- One more chunk, and what stands after the chunks in its place.
use Rattle.std.proofs.Common.{◌≡◌, ℕ, ◌+◌, ◌<◌, ◌≤◌, List, [], ◌∷◌, ◌++◌, length, refl, sym, ap, ◌∙◌, subst, append_assoc, length-append}
use Rattle.std.proofs.lemmas.List.{append-nil, flat_map_more}
use Rattle.std.specs.List.{AllByRecursion}
use Rattle.httparse.specs.Ascii.{crlf_bytes}
use Rattle.httparse.specs.Grammar.{ChunkLine, print_chunk_line, chunk_size}
use Rattle.input_fields.specs.Streams.{IsSpent, Yields}
use Rattle.listen_http.specs.Bodies.{HasBehindChunks, IsChunkedBody, IsNoBody, has_no_trailers, is_short}
use Rattle.listen_http.specs.Chunks.{AreChunks, Chunk, HasNoLineEnd, IsChunk, IsNoChunk, IsSizeLine, IsTooLongWith, has_no_end, is_cut, print_chunk}
use Rattle.listen_http.specs.Exchange.{Takes}
use Rattle.listen_http.specs.ProofReading.{EndsChunks}
use Rattle.listen_http.specs.Trailers.{AreTrailers, HasNoTrailers, Section, print_trailers}
use Rattle.listen_http.specs.declared.framing.Framing.TheVariants.{Chunked, Length}
use Rattle.listen_http.proofs.Streams.{Yields_more}

all_and_one : (P : Chunk → Type 0) (chunks : List Chunk) (chunk : Chunk) → AllByRecursion P chunks → P chunk → AllByRecursion P (chunks ++ chunk ∷ [])
all_and_one P [] chunk all one = (one, tt)
all_and_one P (first ∷ others) chunk all one = (all.0, all_and_one P others chunk all.1 one)

pub one_more : (chunks : List Chunk) (text body : List ℕ) (line : ChunkLine) (bytes : List ℕ) → AreChunks chunks text body → IsSizeLine line → chunk_size line ≡ length bytes → 0 < length bytes
    → AreChunks (chunks ++ record { line = line; bytes = bytes } ∷ []) (text ++ (print_chunk_line line ++ bytes ++ crlf_bytes)) (body ++ bytes)
one_more chunks text body line bytes are is_line size some =
    let chunk : Chunk = record { line = line; bytes = bytes } in
    record {
      each = all_and_one IsChunk chunks chunk are.each (record { line = is_line; size = size; some = some });
      spelled = ap (λ s. s ++ print_chunk chunk) are.spelled ∙ flat_map_more print_chunk [] chunks chunk;
      together = ap (λ s. s ++ bytes) are.together ∙ flat_map_more (λ c. c.bytes) [] chunks chunk;
    }

-- what was taken after chunks that were read, and tells what stands there
pub takes_behind : (before between after : List ℕ → Type 0) (chunks : List Chunk) (text body : List ℕ) (P : List ℕ → List ℕ → Type 0)
    → AreChunks chunks text body → length body ≤ 16842752 → Yields before between text → Takes between after (λ b rest. P body b)
    → Takes before after (λ b rest. HasBehindChunks b P)
takes_behind before between after chunks text body P are fits gave took =
    (text ++ took.0, Yields_more before between after text took.0 gave took.1, λ rest h. (chunks, text, body, took.0 ++ rest, are, fits, append_assoc text took.0 rest, took.2 rest h))

-- ---- what stands in a chunk's place, where a line tells its size

pub chunk_too_long : (before after : List ℕ → Type 0) (size : ℕ) (line : ChunkLine) → IsSizeLine line → Yields before after (print_chunk_line line) → 16842752 < size + chunk_size line
    → Takes before after (λ b rest. IsTooLongWith size b)
chunk_too_long before after size line is_line gave large = (print_chunk_line line, gave, λ rest h. (line, rest, is_line, refl, large))

pub chunk_cut : (before between after : List ℕ → Type 0) (size : ℕ) (line : ChunkLine) (bytes : List ℕ) → IsSizeLine line → size + chunk_size line ≤ 16842752 → Yields before between (print_chunk_line line)
    → Yields between after bytes → IsSpent after → length bytes < chunk_size line → Takes before after (λ b rest. IsNoChunk size b)
chunk_cut before between after size line bytes is_line fits told gave end short =
    let text = print_chunk_line line ++ bytes in
    (text, Yields_more before between after (print_chunk_line line) bytes told gave, λ rest h. is_cut line bytes is_line fits (ap (λ s. text ++ s) (end rest h) ∙ append-nil text) short)

pub chunk_not_ended : (before told_at read_at after : List ℕ → Type 0) (size : ℕ) (line : ChunkLine) (bytes : List ℕ) → IsSizeLine line → 0 < chunk_size line → size + chunk_size line ≤ 16842752
    → chunk_size line ≡ length bytes → Yields before told_at (print_chunk_line line) → Yields told_at read_at bytes → Takes read_at after (λ b rest. HasNoLineEnd b)
    → Takes before after (λ b rest. IsNoChunk size b)
chunk_not_ended before told_at read_at after size line bytes is_line some fits sized told gave took =
    let text = print_chunk_line line ++ bytes in (
      text ++ took.0,
      Yields_more before read_at after text took.0 (Yields_more before told_at read_at (print_chunk_line line) bytes told gave) took.1,
      λ rest h. has_no_end line bytes (took.0 ++ rest) is_line some fits sized (append_assoc text took.0 rest) (took.2 rest h),
    )

-- a chunk was read
pub chunk_taken : (before told_at read_at after : List ℕ → Type 0) (line : ChunkLine) (bytes : List ℕ)
    → Yields before told_at (print_chunk_line line) → Yields told_at read_at bytes → Yields read_at after crlf_bytes → Yields before after (print_chunk_line line ++ bytes ++ crlf_bytes)
chunk_taken before told_at read_at after line bytes told gave end =
    Yields_more before read_at after (print_chunk_line line ++ bytes) crlf_bytes (Yields_more before told_at read_at (print_chunk_line line) bytes told gave) end

-- ---- what a whole body is told from

pub longer_by : (old new bytes : List ℕ) → new ≡ old ++ bytes → length new ≡ length old + length bytes
longer_by old new bytes is = ap length is ∙ length-append old bytes

pub takes_so : (before after : List ℕ → Type 0) (P Q : List ℕ → List ℕ → Type 0) → ((b rest : List ℕ) → P b rest → Q b rest) → Takes before after P → Takes before after Q
takes_so before after P Q so took = (took.0, took.1, λ rest h. so (took.0 ++ rest) rest (took.2 rest h))

pub body_cut : (before after : List ℕ → Type 0) (size : ℕ) (bytes : List ℕ) → length bytes < size → Yields before after bytes → IsSpent after → Takes before after (λ b rest. IsNoBody b (Length size))
body_cut before after size bytes short gave end =
    (bytes, gave, λ rest h. let all : bytes ++ rest ≡ bytes = ap (λ s. bytes ++ s) (end rest h) ∙ append-nil bytes in is_short size (subst (λ (b : List ℕ). length b < size) (sym all) short))

-- the chunks ended, and what stands after them is no trailers
pub trailers_missing : (before between after : List ℕ → Type 0) (body : List ℕ) → EndsChunks before between body → Takes between after (λ b rest. HasNoTrailers b) → Takes before after (λ b rest. IsNoBody b Chunked)
trailers_missing before between after body ended took =
    let text = ended.1 in
    let last = print_chunk_line ended.2 in (
      (text ++ last) ++ took.0,
      Yields_more before between after (text ++ last) took.0 ended.6 took.1,
      λ rest h. has_no_trailers (ended.0, text, body, last ++ (took.0 ++ rest), ended.3, ended.5, append_assoc (text ++ last) took.0 rest ∙ append_assoc text last (took.0 ++ rest), (ended.2, took.0 ++ rest, ended.4, refl, took.2 rest h)),
    )

pub body_taken : (before between after : List ℕ → Type 0) (body : List ℕ) (section : Section) → EndsChunks before between body → AreTrailers section → Yields between after (print_trailers section)
    → Takes before after (λ b rest. IsChunkedBody b body rest)
body_taken before between after body section ended are gave = (
  (ended.1 ++ print_chunk_line ended.2) ++ print_trailers section,
  Yields_more before between after (ended.1 ++ print_chunk_line ended.2) (print_trailers section) ended.6 gave,
  λ rest h. record {
    chunks = ended.0;
    text = ended.1;
    last = ended.2;
    trailers = section;
    are_chunks = ended.3;
    is_last = ended.4;
    are_trailers = are;
    fits = ended.5;
    spelled = refl;
  },
)
