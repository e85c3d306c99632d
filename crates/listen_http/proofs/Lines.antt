-- A line that tells a size ends in a line feed.
use Rattle.std.proofs.Common.{◌≡◌, ◌≢◌, ℕ, ◌≤◌, true, List, [], ◌∷◌, ◌++◌, length, drop, refl, sym, ap, ◌∙◌, subst, append_assoc, arith}
use Rattle.std.proofs.lemmas.List.{append-nil}
use Rattle.httparse.specs.Grammar.{ChunkLine, IsChunkLine, HasNoChunkLine, NeverHasChunkLine, print_chunk_line, print_extension, chunk_size}
use Rattle.httparse.specs.Spans.{IsChunkLineAt}
use Rattle.listen_http.specs.Chunks.{HasNoSizeLine, IsSizeLine}
use Rattle.listen_http.specs.ProofKinds.{ends_line}
use Rattle.listen_http.proofs.Completing.{begins_shorter, none_in_nothing, none_with_byte, whole_with_byte}
use Rattle.listen_http.proofs.LineEnds.{line_feed_ends_it, other_byte_ends_none}

size_line_ends : (line : ChunkLine) → ends_line (print_chunk_line line) ≡ true
unfolding print_chunk_line
size_line_ends line =
    line_feed_ends_it (print_chunk_line line) ((line.digits ++ line.pad ++ print_extension line.extension) ++ 13 ∷ []) (regroup line.digits line.pad (print_extension line.extension))
  where
    regroup : (digits pad extension : List ℕ) → digits ++ pad ++ extension ++ 13 ∷ 10 ∷ [] ≡ ((digits ++ pad ++ extension) ++ 13 ∷ []) ++ 10 ∷ []
    regroup digits pad extension = simp append_assoc

pub no_line_in_nothing : HasNoChunkLine []
no_line_in_nothing = none_in_nothing print_chunk_line IsChunkLine ends_line size_line_ends refl

pub no_line_with_byte : (text : List ℕ) (byte : ℕ) → byte ≢ 10 → HasNoChunkLine text → HasNoChunkLine (text ++ byte ∷ [])
no_line_with_byte text byte other = none_with_byte print_chunk_line IsChunkLine ends_line size_line_ends text byte (other_byte_ends_none text byte other)

-- what the last byte completed is a line and nothing else
pub size_line_found : (text buffer : List ℕ) (byte len size : ℕ) → buffer ≡ text ++ byte ∷ [] → length buffer ≤ 256 → HasNoChunkLine text
    → ((line : ChunkLine) × IsChunkLineAt buffer len size line) → (line : ChunkLine) × IsSizeLine line × (buffer ≡ print_chunk_line line) × (size ≡ chunk_size line)
size_line_found text buffer byte len size is fits none found =
    let whole : buffer ≡ print_chunk_line found.0 = is ∙ whole_with_byte print_chunk_line IsChunkLine ends_line size_line_ends text byte found.0 (drop len buffer) none found.1.reads.0 (sym is ∙ found.1.reads.1) in
    (found.0, record { is_line = found.1.reads.0; short = subst (λ (t : List ℕ). length t ≤ 256) whole fits }, whole, found.1.size_is)

-- ---- no line, whatever follows

pub line_refused : (text : List ℕ) → NeverHasChunkLine text → (more : List ℕ) → HasNoSizeLine (text ++ more)
line_refused text never more line rest is e = never more line rest (is.is_line, e)

pub line_too_long : (text : List ℕ) → 256 ≤ length text → HasNoChunkLine text → (more : List ℕ) → HasNoSizeLine (text ++ more)
line_too_long text long none more line rest is e =
    none line (drop (length (print_chunk_line line)) text) (is.is_line, begins_shorter text more (print_chunk_line line) rest e (omega (arith, is.short)))

pub line_cut : (text more : List ℕ) → more ≡ [] → HasNoChunkLine text → HasNoSizeLine (text ++ more)
line_cut text more end none line rest is e =
    let all : text ++ more ≡ text = ap (λ s. text ++ s) end ∙ append-nil text in
    none line rest (is.is_line, sym all ∙ e)
