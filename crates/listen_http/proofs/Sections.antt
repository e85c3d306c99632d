-- Trailers end in a line feed.
use Rattle.std.proofs.Common.{◌≡◌, ◌≢◌, ℕ, ◌<◌, ◌≤◌, true, List, [], ◌∷◌, ◌++◌, All, length, take, drop, refl, sym, ap, ◌∙◌, subst, append_assoc, arith, length-take}
use Rattle.std.proofs.lemmas.List.{append-nil, length-map}
use Rattle.std.specs.List.{flat_map}
use Rattle.httparse.specs.Grammar.{IsField, LineEnd, crlf, lf, HasNoSection, print_end, print_field}
use Rattle.httparse.specs.Spans.{IsSectionOf, IsSectionWithin, SectionOverflows, header_bytes, name_and_value}
use Rattle.httparse.specs.declared.spans.HeaderSpan.{HeaderSpan}
use Rattle.listen_http.specs.ProofKinds.{HasNone, ends_line}
use Rattle.listen_http.specs.Trailers.{AreTrailers, HasNoTrailers, Section, print_trailers}
use Rattle.listen_http.proofs.Completing.{begins_shorter, none_in_nothing, none_with_byte, whole_with_byte}
use Rattle.listen_http.proofs.LineEnds.{line_feed_ends_it, other_byte_ends_none}

abbrev pub HasFields : Section → Type 0
HasFields section = All IsField section.fields

trailers_end : (section : Section) → ends_line (print_trailers section) ≡ true
trailers_end section = by_end (flat_map print_field section.fields) section.last
  where
    by_end : (lines : List ℕ) (last : LineEnd) → ends_line (lines ++ print_end last) ≡ true
    by_end lines crlf = line_feed_ends_it (lines ++ 13 ∷ 10 ∷ []) (lines ++ 13 ∷ []) (sym (append_assoc lines (13 ∷ []) (10 ∷ [])))
    by_end lines lf = line_feed_ends_it (lines ++ 10 ∷ []) lines refl

-- the parser's word for it, and this project's
as_kind : (text : List ℕ) → HasNoSection text → HasNone print_trailers HasFields text
as_kind text none section rest reads = none section.fields section.last rest reads

as_section : (text : List ℕ) → HasNone print_trailers HasFields text → HasNoSection text
as_section text none fields last rest reads = none (record { fields = fields; last = last }) rest reads

pub no_section_in_nothing : HasNoSection []
no_section_in_nothing = as_section [] (none_in_nothing print_trailers HasFields ends_line trailers_end refl)

pub no_section_with_byte : (text : List ℕ) (byte : ℕ) → byte ≢ 10 → HasNoSection text → HasNoSection (text ++ byte ∷ [])
no_section_with_byte text byte other none =
    as_section (text ++ byte ∷ []) (none_with_byte print_trailers HasFields ends_line trailers_end text byte (other_byte_ends_none text byte other) (as_kind text none))

-- what the last byte completed is trailers and nothing else
pub trailers_found : (text buffer : List ℕ) (byte : ℕ) (headers : List HeaderSpan) (found : ℕ × ℕ) → buffer ≡ text ++ byte ∷ [] → length buffer ≤ 4096 → length headers ≡ 64
    → HasNoSection text → IsSectionOf buffer 0 headers found → IsSectionWithin buffer headers found.0 found.1
    → (section : Section) × AreTrailers section × (buffer ≡ print_trailers section)
trailers_found text buffer byte headers found is fits room none of within =
    let section : Section = record { fields = of.0; last = of.1 } in
    let whole : buffer ≡ print_trailers section = is ∙ whole_with_byte print_trailers HasFields ends_line trailers_end text byte section (drop found.0 buffer) (as_kind text none) of.2.reads.0 (sym is ∙ of.2.reads.1) in
    let count : length (take found.1 headers) ≡ length of.0 = sym (length-map (take found.1 headers) (header_bytes buffer)) ∙ ap length of.2.fields_are ∙ length-map of.0 name_and_value in
    let taken = length-take found.1 headers in
    (section, record { each = of.2.reads.0; few = omega (arith, within.count_fits); short = subst (λ (t : List ℕ). length t ≤ 4096) whole fits }, whole)

-- ---- no trailers, whatever follows

pub trailers_refused : (text : List ℕ) (room : ℕ) → room ≡ 64 → SectionOverflows room text → (more : List ℕ) → HasNoTrailers (text ++ more)
trailers_refused text room is overflows more section rest are e =
    let over : room < length section.fields = overflows more section.fields section.last rest (are.each, e) in
    absurd (omega (arith, are.few))

pub trailers_too_long : (text : List ℕ) → 4096 ≤ length text → HasNoSection text → (more : List ℕ) → HasNoTrailers (text ++ more)
trailers_too_long text long none more section rest are e =
    none section.fields section.last (drop (length (print_trailers section)) text) (are.each, begins_shorter text more (print_trailers section) rest e (omega (arith, are.short)))

pub trailers_cut : (text more : List ℕ) → more ≡ [] → HasNoSection text → HasNoTrailers (text ++ more)
trailers_cut text more end none section rest are e =
    let all : text ++ more ≡ text = ap (λ s. text ++ s) end ∙ append-nil text in
    none section.fields section.last rest (are.each, sym all ∙ e)
