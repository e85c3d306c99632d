-- A head has a space, and ends in an empty line.
use Rattle.std.proofs.Common.{◌≡◌, ◌==◌, ◌||◌, ◌&&◌, ℕ, ◌+◌, ◌-◌, Bool, true, false, List, [], ◌∷◌, ◌++◌, length, drop, nat_eq, refl, sym, ap, ◌∙◌, append_assoc, arith, length-append}
use Rattle.std.proofs.Math.Seq.{drop-append_seam}
use Rattle.std.proofs.lemmas.List.{append-nil}
use Rattle.std.proofs.lemmas.List.Folds.{list_any-append}
use Rattle.std.specs.List.{ends_with, flat_map}
use Rattle.std.specs.Cmp.Lexicographic.{pointwise}
use Rattle.httparse.specs.Grammar.{LineEnd, crlf, lf, Field, IsRequestHead, print_end, print_blank, print_version, print_field, RequestHead, print_request, HasNoRequest}
use Rattle.httparse.specs.Spans.{IsRequestAt}
use Rattle.httparse.specs.declared.spans.HeaderSpan.{HeaderSpan}
use Rattle.httparse.specs.declared.spans.RequestSpans.{RequestSpans}
use Rattle.listen_http.specs.ProofKinds.{ends_empty_line, has_space, may_end_head}
use Rattle.listen_http.proofs.Completing.{none_in_nothing, none_with_byte, whole_with_byte}

-- ---- what a text ends with

pub ends_with_back : (front back : List ℕ) → ends_with nat_eq (front ++ back) back ≡ pointwise nat_eq back back
ends_with_back front back =
    let size : length (front ++ back) ≡ length front + length back = length-append front back in
    let before : length (front ++ back) - length back ≡ length front = omega arith in
    ap (λ n. pointwise nat_eq back (drop n (front ++ back))) before ∙ ap (pointwise nat_eq back) (drop-append_seam front back)

pub line_end_ends : (e : LineEnd) → (front : List ℕ) × (print_end e ≡ front ++ 10 ∷ [])
line_end_ends crlf = (13 ∷ [], refl)
line_end_ends lf = ([], refl)

empty_line_ends : (front : List ℕ) (e : LineEnd) → ends_empty_line ((front ++ 10 ∷ []) ++ print_end e) ≡ true
empty_line_ends front lf =
    let one : ends_with nat_eq (front ++ 10 ∷ 10 ∷ []) (10 ∷ 10 ∷ []) ≡ true = ends_with_back front (10 ∷ 10 ∷ []) in
    let same : (front ++ 10 ∷ []) ++ 10 ∷ [] ≡ front ++ 10 ∷ 10 ∷ [] = append_assoc front (10 ∷ []) (10 ∷ []) in
    ap ends_empty_line same ∙ ap (λ b. b || ends_with nat_eq (front ++ 10 ∷ 10 ∷ []) (10 ∷ 13 ∷ 10 ∷ [])) one
empty_line_ends front crlf =
    let one : ends_with nat_eq (front ++ 10 ∷ 13 ∷ 10 ∷ []) (10 ∷ 13 ∷ 10 ∷ []) ≡ true = ends_with_back front (10 ∷ 13 ∷ 10 ∷ []) in
    let same : (front ++ 10 ∷ []) ++ 13 ∷ 10 ∷ [] ≡ front ++ 10 ∷ 13 ∷ 10 ∷ [] = append_assoc front (10 ∷ []) (13 ∷ 10 ∷ []) in
    ap ends_empty_line same ∙ ap (λ b. ends_with nat_eq (front ++ 10 ∷ 13 ∷ 10 ∷ []) (10 ∷ 10 ∷ []) || b) one ∙ or_true (ends_with nat_eq (front ++ 10 ∷ 13 ∷ 10 ∷ []) (10 ∷ 10 ∷ []))
  where
    or_true : (b : Bool) → (b || true) ≡ true
    or_true true = refl
    or_true false = refl

-- lines end in a line feed, the last of them too
fields_end : (front : List ℕ) (e : LineEnd) (fields : List Field) → (init : List ℕ) × ((front ++ print_end e) ++ flat_map print_field fields ≡ init ++ 10 ∷ [])
fields_end front e [] = let end = line_end_ends e in (front ++ end.0, append-nil (front ++ print_end e) ∙ ap (λ s. front ++ s) end.1 ∙ sym (append_assoc front end.0 (10 ∷ [])))
fields_end front e (field ∷ fields) =
    let said = field.name ++ 58 ∷ field.raw in
    let rec = fields_end ((front ++ print_end e) ++ said) field.end fields in
    (rec.0, regrouped (front ++ print_end e) said (print_end field.end) (flat_map print_field fields) ∙ rec.1)
  where
    regrouped : (a said end others : List ℕ) → a ++ ((said ++ end) ++ others) ≡ ((a ++ said) ++ end) ++ others
    regrouped a said end others = simp append_assoc

-- ---- heads

-- what stands before the end of the first line
abbrev pub first_line : RequestHead → List ℕ
first_line h = ((print_blank h.blank ++ h.method) ++ 32 ∷ h.target) ++ 32 ∷ print_version h.minor

pub lines_of : (h : RequestHead) → print_request h ≡ ((first_line h ++ print_end h.line_end) ++ flat_map print_field h.fields) ++ print_end h.last
unfolding print_request
lines_of h = sym (append_assoc (first_line h ++ print_end h.line_end) (flat_map print_field h.fields) (print_end h.last))

any_before : (xs ys : List ℕ) → has_space xs ≡ true → has_space (xs ++ ys) ≡ true
any_before xs ys has = list_any-append (λ b. b == 32) xs ys ∙ ap (λ b. b || has_space ys) has

any_behind : (xs ys : List ℕ) → has_space ys ≡ true → has_space (xs ++ ys) ≡ true
any_behind xs ys has = list_any-append (λ b. b == 32) xs ys ∙ ap (λ b. has_space xs || b) has ∙ or_true (has_space xs)
  where
    or_true : (b : Bool) → (b || true) ≡ true
    or_true true = refl
    or_true false = refl

pub space_with_byte : (text : List ℕ) (byte : ℕ) (had : Bool) → had ≡ has_space text → (had || (byte == 32)) ≡ has_space (text ++ byte ∷ [])
space_with_byte text byte had is = ap (λ b. b || (byte == 32)) is ∙ ap (λ b. has_space text || b) (sym (or_false (byte == 32))) ∙ sym (list_any-append (λ b. b == 32) text (byte ∷ []))
  where
    or_false : (b : Bool) → (b || false) ≡ b
    or_false true = refl
    or_false false = refl

pub head_has_space : (h : RequestHead) → has_space (print_request h) ≡ true
head_has_space h =
    let line : has_space (first_line h) ≡ true = any_behind ((print_blank h.blank ++ h.method) ++ 32 ∷ h.target) (32 ∷ print_version h.minor) refl in
    let more = any_before (first_line h) (print_end h.line_end) line in
    let all = any_before (first_line h ++ print_end h.line_end) (flat_map print_field h.fields) more in
    ap has_space (lines_of h) ∙ any_before ((first_line h ++ print_end h.line_end) ++ flat_map print_field h.fields) (print_end h.last) all

pub head_may_end : (h : RequestHead) → may_end_head (print_request h) ≡ true
head_may_end h =
    let lines = fields_end (first_line h) h.line_end h.fields in
    let end : ends_empty_line (print_request h) ≡ true = ap ends_empty_line (lines_of h ∙ ap (λ s. s ++ print_end h.last) lines.1) ∙ empty_line_ends lines.0 h.last in
    ap (λ b. b && ends_empty_line (print_request h)) (head_has_space h) ∙ end

pub no_head_in_nothing : HasNoRequest []
no_head_in_nothing = none_in_nothing print_request IsRequestHead may_end_head head_may_end refl

pub no_head_with_byte : (text : List ℕ) (byte : ℕ) → may_end_head (text ++ byte ∷ []) ≡ false → HasNoRequest text → HasNoRequest (text ++ byte ∷ [])
no_head_with_byte text byte = none_with_byte print_request IsRequestHead may_end_head head_may_end text byte

-- a head that the last byte completed has all the bytes
pub whole_head : (text : List ℕ) (byte : ℕ) (headers : List HeaderSpan) (spans : RequestSpans) (h : RequestHead) → HasNoRequest text → IsRequestAt (text ++ byte ∷ []) headers spans h → spans.len ≡ length (text ++ byte ∷ [])
whole_head text byte headers spans h none at = at.len ∙ ap length (sym (whole_with_byte print_request IsRequestHead may_end_head head_may_end text byte h (drop spans.len (text ++ byte ∷ [])) none at.reads.0 at.reads.1))
