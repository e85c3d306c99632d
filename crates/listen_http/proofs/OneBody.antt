-- Two readings of the bytes behind a head are the same.
use Rattle.std.proofs.Common.{◌≡◌, ℕ, ◌+◌, ◌≤◌, List, [], ◌∷◌, ◌++◌, length, drop, get_or, refl, sym, ap, ◌∙◌, subst, append_assoc, arith, length-append}
use Rattle.std.specs.List.{AllByRecursion, flat_map}
use Rattle.httparse.specs.Ascii.{crlf_bytes}
use Rattle.httparse.specs.Grammar.{ChunkLine, chunk_size, print_chunk_line}
use Rattle.httparse.proofs.ChunkLemmas.{chunk_line_unique}
use Rattle.httparse.proofs.GrammarLemmas.{section_unique}
use Rattle.listen_http.specs.Bodies.{EndsBadly, HasBehindChunks, HasBody, IsChunkedBody, IsNoBody, IsTooLongBody, has_no_chunk, has_no_trailers, is_short}
use Rattle.listen_http.specs.Chunks.{Chunk, IsChunk, IsLast, IsNoChunk, IsSizeLine, IsTooLongWith, has_no_end, has_no_line, is_cut, print_chunk}
use Rattle.listen_http.specs.Trailers.{AreTrailers, Section, print_trailers}
use Rattle.listen_http.specs.declared.framing.Framing.{Framing}
use Rattle.listen_http.specs.declared.framing.Framing.TheVariants.{Chunked, Length}

-- two texts of one length that an input begins with
pub same_fronts : (xs ys r q : List ℕ) → xs ++ r ≡ ys ++ q → length xs ≡ length ys → (xs ≡ ys) × (r ≡ q)
same_fronts [] [] r q e size = (refl, e)
same_fronts [] (y ∷ ys) r q e size = absurd (omega arith)
same_fronts (x ∷ xs) [] r q e size = absurd (omega arith)
same_fronts (x ∷ xs) (y ∷ ys) r q e size =
    let first : x ≡ y = ap (λ (s : List ℕ). get_or s 0 0) e in
    let others : xs ++ r ≡ ys ++ q = ap (λ (s : List ℕ). drop 1 s) e in
    let same = same_fronts xs ys r q others (omega arith) in
    (ap (λ n. n ∷ xs) first ∙ ap (λ s. y ∷ s) same.0, same.1)

-- ---- one chunk

same_line : (line other : ChunkLine) (r q : List ℕ) → IsSizeLine line → IsSizeLine other → print_chunk_line line ++ r ≡ print_chunk_line other ++ q → (line ≡ other) × (r ≡ q)
same_line line other r q is is_other e = chunk_line_unique (print_chunk_line line ++ r) line other r q (is.is_line, refl) (is_other.is_line, e)

-- its line, and what stands behind that
behind_line : (chunk : Chunk) (rest : List ℕ) → print_chunk chunk ++ rest ≡ print_chunk_line chunk.line ++ (chunk.bytes ++ (crlf_bytes ++ rest))
behind_line chunk rest = regroup (print_chunk_line chunk.line) chunk.bytes crlf_bytes rest
  where
    regroup : (a b c d : List ℕ) → (a ++ b ++ c) ++ d ≡ a ++ (b ++ (c ++ d))
    regroup a b c d = simp append_assoc

same_chunk : (chunk other : Chunk) (r q : List ℕ) → IsChunk chunk → IsChunk other → print_chunk chunk ++ r ≡ print_chunk other ++ q → (chunk.bytes ≡ other.bytes) × (r ≡ q)
same_chunk chunk other r q is is_other e =
    let lines = same_line chunk.line other.line (chunk.bytes ++ (crlf_bytes ++ r)) (other.bytes ++ (crlf_bytes ++ q)) is.line is_other.line (sym (behind_line chunk r) ∙ e ∙ behind_line other q) in
    let size : length chunk.bytes ≡ length other.bytes = sym is.size ∙ ap chunk_size lines.0 ∙ is_other.size in
    let bytes = same_fronts chunk.bytes other.bytes (crlf_bytes ++ r) (crlf_bytes ++ q) lines.1 size in
    let ends = same_fronts crlf_bytes crlf_bytes r q bytes.1 refl in
    (bytes.0, ends.1)

-- ---- where the chunks stop, which had so many bytes

abbrev pub IsEnd : List ℕ → Type 0
IsEnd b = (last : ChunkLine) × (rest : List ℕ) × IsLast last × (b ≡ print_chunk_line last ++ rest)

pub data Stops (size : ℕ) (b : List ℕ) : Type 0 where
  at_end : IsEnd b → Stops size b
  at_none : IsNoChunk size b → Stops size b
  at_long : IsTooLongWith size b → Stops size b

-- another chunk does not begin there
no_chunk_there : (size : ℕ) (b : List ℕ) (chunk : Chunk) (rest : List ℕ) → Stops size b → IsChunk chunk → size + length chunk.bytes ≤ 16842752 → b ≡ print_chunk chunk ++ rest → ⊥
no_chunk_there size b chunk rest (at_end end) is fits e =
    let lines = same_line chunk.line end.0 (chunk.bytes ++ (crlf_bytes ++ rest)) end.1 is.line end.2.0 (sym (behind_line chunk rest) ∙ sym e ∙ end.3) in
    let size : chunk_size chunk.line ≡ chunk_size end.0 = ap chunk_size lines.0 in
    absurd (omega (arith, size, end.2.1, is.size, is.some))
no_chunk_there size b chunk rest (at_none (has_no_line none)) is fits e = none chunk.line (chunk.bytes ++ (crlf_bytes ++ rest)) is.line (e ∙ behind_line chunk rest)
no_chunk_there size b chunk rest (at_none (is_cut line bytes is_line room cut short)) is fits e =
    let lines = same_line chunk.line line (chunk.bytes ++ (crlf_bytes ++ rest)) bytes is.line is_line (sym (behind_line chunk rest) ∙ sym e ∙ cut) in
    let sized : chunk_size chunk.line ≡ chunk_size line = ap chunk_size lines.0 in
    let all : length (chunk.bytes ++ (crlf_bytes ++ rest)) ≡ length bytes = ap length lines.1 in
    absurd (omega (arith, sized, all, is.size, short, length-append chunk.bytes (crlf_bytes ++ rest)))
no_chunk_there size b chunk rest (at_none (has_no_end line bytes other is_line some room sized cut none)) is fits e =
    let lines = same_line chunk.line line (chunk.bytes ++ (crlf_bytes ++ rest)) (bytes ++ other) is.line is_line (sym (behind_line chunk rest) ∙ sym e ∙ cut ∙ append_assoc (print_chunk_line line) bytes other) in
    let same : length chunk.bytes ≡ length bytes = sym is.size ∙ ap chunk_size lines.0 ∙ sized in
    let ends = same_fronts chunk.bytes bytes (crlf_bytes ++ rest) other lines.1 same in
    none rest (sym ends.1)
no_chunk_there size b chunk rest (at_long long) is fits e =
    let lines = same_line chunk.line long.0 (chunk.bytes ++ (crlf_bytes ++ rest)) long.1 is.line long.2 (sym (behind_line chunk rest) ∙ sym e ∙ long.3) in
    let sized : chunk_size chunk.line ≡ chunk_size long.0 = ap chunk_size lines.0 in
    absurd (omega (arith, sized, is.size, fits, long.4))

-- one stop is no other

end_or_none : (size : ℕ) (b : List ℕ) → IsEnd b → IsNoChunk size b → ⊥
end_or_none size b end (has_no_line none) = none end.0 end.1 end.2.0 end.3
end_or_none size b end (is_cut line bytes is_line room cut short) =
    let lines = same_line end.0 line end.1 bytes end.2.0 is_line (sym end.3 ∙ cut) in
    let sized : chunk_size end.0 ≡ chunk_size line = ap chunk_size lines.0 in
    absurd (omega (arith, sized, end.2.1, short))
end_or_none size b end (has_no_end line bytes other is_line some room sized cut none) =
    let lines = same_line end.0 line end.1 (bytes ++ other) end.2.0 is_line (sym end.3 ∙ cut ∙ append_assoc (print_chunk_line line) bytes other) in
    let same : chunk_size end.0 ≡ chunk_size line = ap chunk_size lines.0 in
    absurd (omega (arith, same, end.2.1, some))

end_or_long : (size : ℕ) (b : List ℕ) → size ≤ 16842752 → IsEnd b → IsTooLongWith size b → ⊥
end_or_long size b fits end long =
    let lines = same_line end.0 long.0 end.1 long.1 end.2.0 long.2 (sym end.3 ∙ long.3) in
    let sized : chunk_size end.0 ≡ chunk_size long.0 = ap chunk_size lines.0 in
    absurd (omega (arith, sized, end.2.1, fits, long.4))

none_or_long : (size : ℕ) (b : List ℕ) → IsNoChunk size b → IsTooLongWith size b → ⊥
none_or_long size b (has_no_line none) long = none long.0 long.1 long.2 long.3
none_or_long size b (is_cut line bytes is_line room cut short) long =
    let lines = same_line line long.0 bytes long.1 is_line long.2 (sym cut ∙ long.3) in
    let sized : chunk_size line ≡ chunk_size long.0 = ap chunk_size lines.0 in
    absurd (omega (arith, sized, room, long.4))
none_or_long size b (has_no_end line bytes other is_line some room sized cut none) long =
    let lines = same_line line long.0 (bytes ++ other) long.1 is_line long.2 (sym (append_assoc (print_chunk_line line) bytes other) ∙ sym cut ∙ long.3) in
    let same : chunk_size line ≡ chunk_size long.0 = ap chunk_size lines.0 in
    absurd (omega (arith, same, room, long.4))

-- ---- chunks

abbrev pub texts : List Chunk → List ℕ
texts chunks = flat_map print_chunk chunks

abbrev pub bytes_of : List Chunk → List ℕ
bytes_of chunks = flat_map (λ (chunk : Chunk). chunk.bytes) chunks

-- two lists of chunks that an input begins with, and where they stop
same_chunks : (size : ℕ) (chunks others : List Chunk) (b c : List ℕ) → AllByRecursion IsChunk chunks → AllByRecursion IsChunk others → texts chunks ++ b ≡ texts others ++ c
    → size + length (bytes_of chunks) ≤ 16842752 → size + length (bytes_of others) ≤ 16842752 → Stops (size + length (bytes_of chunks)) b → Stops (size + length (bytes_of others)) c
    → (bytes_of chunks ≡ bytes_of others) × (b ≡ c)
same_chunks size [] [] b c are are_others e fits fits_others stop stop_other = (refl, e)
same_chunks size [] (other ∷ others) b c are are_others e fits fits_others stop stop_other =
    let room : (size + 0) + length other.bytes ≤ 16842752 = omega (arith, fits_others, length-append other.bytes (bytes_of others)) in
    absurd (no_chunk_there (size + 0) b other (texts others ++ c) stop are_others.0 room (e ∙ append_assoc (print_chunk other) (texts others) c))
same_chunks size (chunk ∷ chunks) [] b c are are_others e fits fits_others stop stop_other =
    let room : (size + 0) + length chunk.bytes ≤ 16842752 = omega (arith, fits, length-append chunk.bytes (bytes_of chunks)) in
    absurd (no_chunk_there (size + 0) c chunk (texts chunks ++ b) stop_other are.0 room (sym e ∙ append_assoc (print_chunk chunk) (texts chunks) b))
same_chunks size (chunk ∷ chunks) (other ∷ others) b c are are_others e fits fits_others stop stop_other =
    let first = same_chunk chunk other (texts chunks ++ b) (texts others ++ c) are.0 are_others.0 (sym (append_assoc (print_chunk chunk) (texts chunks) b) ∙ e ∙ append_assoc (print_chunk other) (texts others) c) in
    let long : length chunk.bytes ≡ length other.bytes = ap length first.0 in
    let sized : size + length (chunk.bytes ++ bytes_of chunks) ≡ (size + length chunk.bytes) + length (bytes_of chunks) = omega (arith, length-append chunk.bytes (bytes_of chunks)) in
    let sized_other : size + length (other.bytes ++ bytes_of others) ≡ (size + length chunk.bytes) + length (bytes_of others) = omega (arith, long, length-append other.bytes (bytes_of others)) in
    let behind = same_chunks (size + length chunk.bytes) chunks others b c are.1 are_others.1 first.1 (subst (λ (n : ℕ). n ≤ 16842752) sized fits) (subst (λ (n : ℕ). n ≤ 16842752) sized_other fits_others)
    (subst (λ (n : ℕ). Stops n b) sized stop) (subst (λ (n : ℕ). Stops n c) sized_other stop_other) in
    (ap (λ s. s ++ bytes_of chunks) first.0 ∙ ap (λ s. other.bytes ++ s) behind.0, behind.1)

-- what stands behind chunks tells how many bytes they have
abbrev pub Tells : (P : List ℕ → List ℕ → Type 0) → Type 0
Tells P = (body behind : List ℕ) → length body ≤ 16842752 → P body behind → Stops (length body) behind

same_place : (b : List ℕ) (P Q : List ℕ → List ℕ → Type 0) → Tells P → Tells Q → (one : HasBehindChunks b P) (other : HasBehindChunks b Q) → (one.2 ≡ other.2) × (one.3 ≡ other.3)
same_place b P Q tells tells_other one other =
    let fits : length (bytes_of one.0) ≤ 16842752 = subst (λ (s : List ℕ). length s ≤ 16842752) one.4.together one.5 in
    let fits_other : length (bytes_of other.0) ≤ 16842752 = subst (λ (s : List ℕ). length s ≤ 16842752) other.4.together other.5 in
    let stop : Stops (0 + length (bytes_of one.0)) one.3 = subst (λ (s : List ℕ). Stops (0 + length s) one.3) one.4.together (subst (λ (n : ℕ). Stops n one.3) (omega arith) (tells one.2 one.3 one.5 one.7)) in
    let stop_other : Stops (0 + length (bytes_of other.0)) other.3 = subst (λ (s : List ℕ). Stops (0 + length s) other.3) other.4.together (subst (λ (n : ℕ). Stops n other.3) (omega arith) (tells_other other.2 other.3 other.5 other.7)) in
    let same = same_chunks 0 one.0 other.0 one.3 other.3 one.4.each other.4.each
    (sym (ap (λ s. s ++ one.3) one.4.spelled) ∙ sym one.6 ∙ other.6 ∙ ap (λ s. s ++ other.3) other.4.spelled) (omega (arith, fits)) (omega (arith, fits_other)) stop stop_other in
    (one.4.together ∙ same.0 ∙ sym other.4.together, same.1)

-- ---- whole bodies, and what is none

-- the line of size 0, trailers and the rest
abbrev pub Ends : (rest : List ℕ) → List ℕ → Type 0
Ends rest behind = (last : ChunkLine) × (trailers : Section) × IsLast last × AreTrailers trailers × (behind ≡ print_chunk_line last ++ (print_trailers trailers ++ rest))

abbrev in_chunks : (b body rest : List ℕ) → IsChunkedBody b body rest → HasBehindChunks b (λ bytes behind. (bytes ≡ body) × Ends rest behind)
in_chunks b body rest is = (
  is.chunks,
  is.text,
  body,
  print_chunk_line is.last ++ (print_trailers is.trailers ++ rest),
  is.are_chunks,
  is.fits,
  is.spelled ∙ append_assoc (is.text ++ print_chunk_line is.last) (print_trailers is.trailers) rest ∙ append_assoc is.text (print_chunk_line is.last) (print_trailers is.trailers ++ rest),
  (refl, (is.last, is.trailers, is.is_last, is.are_trailers, refl)),
)

ends_tell : (body rest : List ℕ) → Tells (λ bytes behind. (bytes ≡ body) × Ends rest behind)
ends_tell body rest bytes behind fits ends = at_end (ends.1.0, print_trailers ends.1.1 ++ rest, ends.1.2, ends.1.4)

none_tells : Tells (λ bytes behind. IsNoChunk (length bytes) behind)
none_tells bytes behind fits none = at_none none

bad_end_tells : Tells (λ bytes behind. EndsBadly behind)
bad_end_tells bytes behind fits bad = at_end (bad.0, bad.1, bad.2, bad.3)

long_tells : Tells (λ bytes behind. IsTooLongWith (length bytes) behind)
long_tells bytes behind fits long = at_long long

pub one_body : (framing : Framing) (b body rest other others : List ℕ) → HasBody framing b body rest → HasBody framing b other others → (body ≡ other) × (rest ≡ others)
one_body (Length n) b body rest other others has has_other = same_fronts body other rest others (sym has.0 ∙ has_other.0) (has.1 ∙ sym has_other.1)
one_body Chunked b body rest other others has has_other =
    let one = in_chunks b body rest has in
    let two = in_chunks b other others has_other in
    let same = same_place b _ _ (ends_tell body rest) (ends_tell other others) one two in
    let lines = same_line has.last has_other.last (print_trailers has.trailers ++ rest) (print_trailers has_other.trailers ++ others) has.is_last.0 has_other.is_last.0 same.1 in
    let sections = section_unique (print_trailers has.trailers ++ rest) has.trailers.fields has_other.trailers.fields has.trailers.last has_other.trailers.last rest others (has.are_trailers.each, refl) (has_other.are_trailers.each, lines.1) in
    (same.0, sections.2)

pub body_or_none : (framing : Framing) (b body rest : List ℕ) → HasBody framing b body rest → IsNoBody b framing → ⊥
body_or_none (Length n) b body rest has (is_short m short) =
    let all : length b ≡ length body + length rest = ap length has.0 ∙ length-append body rest in
    absurd (omega (arith, all, has.1, short))
body_or_none Chunked b body rest has (has_no_chunk none) =
    let one = in_chunks b body rest has in
    let same = same_place b _ _ (ends_tell body rest) none_tells one none in
    end_or_none (length none.2) none.3 (has.last, print_trailers has.trailers ++ rest, has.is_last, sym same.1) none.7
body_or_none Chunked b body rest has (has_no_trailers bad) =
    let one = in_chunks b body rest has in
    let same = same_place b _ _ (ends_tell body rest) bad_end_tells one bad in
    let lines = same_line has.last bad.7.0 (print_trailers has.trailers ++ rest) bad.7.1 has.is_last.0 bad.7.2.0 (same.1 ∙ bad.7.3) in
    bad.7.4 has.trailers rest has.are_trailers (sym lines.1)

pub body_or_long : (b body rest : List ℕ) → IsChunkedBody b body rest → IsTooLongBody b → ⊥
body_or_long b body rest has long =
    let one = in_chunks b body rest has in
    let same = same_place b _ _ (ends_tell body rest) long_tells one long in
    end_or_long (length long.2) long.3 long.5 (has.last, print_trailers has.trailers ++ rest, has.is_last, sym same.1) long.7

pub none_or_long_body : (b : List ℕ) → IsNoBody b Chunked → IsTooLongBody b → ⊥
none_or_long_body b (has_no_chunk none) long =
    let same = same_place b _ _ none_tells long_tells none long in
    none_or_long (length long.2) long.3 (subst (λ (s : List ℕ). IsNoChunk (length long.2) s) same.1 (subst (λ (s : List ℕ). IsNoChunk (length s) none.3) same.0 none.7)) long.7
none_or_long_body b (has_no_trailers bad) long =
    let same = same_place b _ _ bad_end_tells long_tells bad long in
    end_or_long (length long.2) long.3 long.5 (bad.7.0, bad.7.1, bad.7.2, sym same.1 ∙ bad.7.3) long.7
