-- For the proof of the code alone: what the calls that read a part of a message found in its
-- place.
use Rattle.std.specs.Prelude.{◌≡◌, ◌≢◌, ℕ, ◌<◌, ◌≤◌, Bool, true, false, List, [], ◌++◌, length}
use Rattle.httparse.specs.Grammar.{HasNoRequest, MayBecomeRequest, NeverHasRequest, ChunkLine, print_chunk_line, chunk_size}
use Rattle.httparse.specs.Ascii.{crlf_bytes}
use Rattle.httparse.specs.Spans.{IsRequestOf, IsRequestWithin, RequestExceeds, RequestOverflows}
use Rattle.httparse.specs.declared.spans.HeaderSpan.{HeaderSpan}
use Rattle.input_http.specs.Limits.{longest_body, longest_head}
use Rattle.input_fields.specs.Streams.{IsSpent, Yields}
use Rattle.listen_http.specs.Bodies.{HasBody, IsNoBody, IsTooLongBody, HasBehindChunks}
use Rattle.listen_http.specs.Chunks.{AreChunks, Chunk, HasNoLineEnd, HasNoSizeLine, IsLast, IsNoChunk, IsSizeLine}
use Rattle.listen_http.specs.Exchange.{Takes, TakesHead}
use Rattle.listen_http.specs.Http.{Http, Nothing, Refused}
use Rattle.listen_http.specs.Judging.{FitsLimit}
use Rattle.listen_http.specs.Trailers.{AreTrailers, HasNoTrailers, Section, print_trailers}
use Rattle.listen_http.specs.declared.body.Body.{Body}
use Rattle.listen_http.specs.declared.body.Body.TheVariants as body_is
use Rattle.listen_http.specs.declared.chunks.Chunks.{Chunks}
use Rattle.listen_http.specs.declared.chunks.Chunks.TheVariants as chunks_are
use Rattle.listen_http.specs.declared.chunks.SizeLine.{SizeLine}
use Rattle.listen_http.specs.declared.chunks.SizeLine.TheVariants.{Size, Invalid}
use Rattle.listen_http.specs.declared.fault.WireFault.{WireFault}
use Rattle.listen_http.specs.declared.fault.WireFault.TheVariants.{Write, Ended}
use Rattle.listen_http.specs.declared.framing.Framing.{Framing}
use Rattle.listen_http.specs.declared.framing.Framing.TheVariants as framing_is
use Rattle.listen_http.specs.declared.head.Head.{Head}
use Rattle.listen_http.specs.declared.head.Head.TheVariants as head_is
use Rattle.listen_http.specs.declared.receiving.Opening.{Opening}
use Rattle.listen_http.specs.declared.receiving.Opening.TheVariants as opening_is

-- a fault of reading, or of memory
abbrev pub IsReading : WireFault → Type 0
IsReading fault = (fault ≢ Write) × (fault ≢ Ended)

-- ---- heads

abbrev pub HeadIs : (room : ℕ) (left : List ℕ → Type 0) (text : List ℕ)
    (headers : List HeaderSpan) (head : Head) → Type 0
HeadIs room left text headers (head_is.Whole spans) =
    IsRequestOf text headers spans × IsRequestWithin text headers spans × (spans.len ≡ length text)
HeadIs room left text headers head_is.Absent = (text ≡ []) × IsSpent left
HeadIs room left text headers head_is.Cut =
    (text ≢ []) × (length text < longest_head) × IsSpent left × HasNoRequest text
HeadIs room left text headers head_is.Invalid = NeverHasRequest text
HeadIs room left text headers head_is.TooMany =
    RequestExceeds room text × RequestOverflows room text
HeadIs room left text headers head_is.TooLong =
    (length text ≡ longest_head) × HasNoRequest text × MayBecomeRequest text

-- ---- so many bytes

-- they were read after what was there, or fewer and the end
abbrev pub ReadsInto : (before after : List ℕ → Type 0) (old new : List ℕ) (count : ℕ)
    (is_whole : Bool) → Type 0
ReadsInto before after old new count true =
    (bytes : List ℕ) × (length bytes ≡ count) × (new ≡ old ++ bytes) × Yields before after bytes
ReadsInto before after old new count false = (bytes : List ℕ) × (length bytes < count)
    × (new ≡ old ++ bytes) × Yields before after bytes × IsSpent after

-- ---- chunks

abbrev pub SizeLineIs : (before after : List ℕ → Type 0) (line : SizeLine) → Type 0
SizeLineIs before after (Size size) = (line : ChunkLine) × IsSizeLine line
    × Yields before after (print_chunk_line line) × (size ≡ chunk_size line)
SizeLineIs before after Invalid = Takes before after (λ b rest. HasNoSizeLine b)

abbrev pub LineEndIs : (before after : List ℕ → Type 0) (is_there : Bool) → Type 0
LineEndIs before after true = Yields before after crlf_bytes
LineEndIs before after false = Takes before after (λ b rest. HasNoLineEnd b)

-- the chunks of this body, and the line of size 0 after them
abbrev pub EndsChunks : (before after : List ℕ → Type 0) (body : List ℕ) → Type 0
EndsChunks before after body =
    (chunks : List Chunk) × (text : List ℕ) × (last : ChunkLine) × AreChunks chunks text body
    × IsLast last × (length body ≤ longest_body)
    × Yields before after (text ++ print_chunk_line last)

abbrev pub ChunksAre : (before after : List ℕ → Type 0) (body : List ℕ) (chunks : Chunks) → Type 0
ChunksAre before after body chunks_are.Whole = EndsChunks before after body
ChunksAre before after body chunks_are.Invalid =
    Takes before after
    (λ b rest. HasBehindChunks b (λ bytes behind. IsNoChunk (length bytes) behind))
ChunksAre before after body chunks_are.TooLong = Takes before after (λ b rest. IsTooLongBody b)

-- ---- trailers

abbrev pub TrailersAre : (before after : List ℕ → Type 0) (are_there : Bool) → Type 0
TrailersAre before after true =
    (section : Section) × AreTrailers section × Yields before after (print_trailers section)
TrailersAre before after false = Takes before after (λ b rest. HasNoTrailers b)

-- ---- bodies

abbrev pub BodyIs : (framing : Framing) (before after : List ℕ → Type 0) (body : Body) → Type 0
BodyIs framing before after (body_is.Whole body) =
    Takes before after (λ b rest. HasBody framing b body.items rest)
BodyIs framing before after body_is.Bad = Takes before after (λ b rest. IsNoBody b framing)
BodyIs framing before after body_is.TooLong =
    (framing ≡ framing_is.Chunked) × Takes before after (λ b rest. IsTooLongBody b)

-- ---- heads that are judged

abbrev pub OpeningIs : (before after : List ℕ → Type 0) (opening : Opening) → Type 0
OpeningIs before after opening_is.Nothing = Takes before after (λ b rest. Http b Nothing)
OpeningIs before after (opening_is.Refused why) =
    Takes before after (λ b rest. Http b (Refused false why))
OpeningIs before after (opening_is.Ordered order) =
    TakesHead before after order × FitsLimit order.framing
