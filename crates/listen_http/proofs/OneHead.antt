-- What an input begins with is a head, or nothing, or one of what stands in a head's place.
use Rattle.std.proofs.Common.{◌≡◌, ℕ, ◌+◌, ◌<◌, ◌≤◌, inl, inr, true, List, [], ◌∷◌, ◌++◌, length, drop, refl, sym, ap, ◌∙◌, subst, lit<, lit≤, append_assoc, arith, length-append}
use Rattle.std.proofs.lemmas.Bool.{true≢false}
use Rattle.std.proofs.lemmas.List.{append-nil, nil_from_length}
use Rattle.std.proofs.lemmas.Str.{IsUtf8-encode, encode_ascii}
use Rattle.std.proofs.lemmas.List.Elements.{All-cons, All-nil}
use Rattle.std.specs.Prelude.{IsTrue, IsUtf8}
use Rattle.httparse.specs.Grammar.{IsField, IsRequestHead, NeverHasRequest, RequestHead, is_token_byte, is_uri_byte, lf, print_request}
use Rattle.httparse.proofs.GrammarLemmas.{request_unique}
use Rattle.listen_http.specs.Heads.{IsNoHead, IsTooLong, Opens, has_many_fields, is_cut, is_invalid}
use Rattle.listen_http.specs.HttpLaws.{HasTwoAnswers, begins_many_fields, ends_in_target}
use Rattle.listen_http.specs.ProofKinds.{has_space}
use Rattle.listen_http.proofs.Completing.{begins_shorter}
use Rattle.listen_http.proofs.Heads.{head_has_space}

pub one_head : (b : List ℕ) (h k : RequestHead) (behind other : List ℕ) → Opens b h behind → Opens b k other → (h ≡ k) × (behind ≡ other)
one_head b h k behind other opens opens_other = request_unique b h k behind other (opens.head, opens.spelled) (opens_other.head, opens_other.spelled)

pub head_or_long : (b : List ℕ) (h : RequestHead) (behind : List ℕ) → Opens b h behind → IsTooLong b → ⊥
head_or_long b h behind opens long =
    let begins : long.0 ≡ print_request h ++ drop (length (print_request h)) long.0 = begins_shorter long.0 long.1 (print_request h) behind (sym long.2 ∙ opens.spelled) (omega (arith, long.3, opens.short)) in
    long.4 h (drop (length (print_request h)) long.0) (opens.head, begins)

pub head_or_none : (b : List ℕ) (h : RequestHead) (behind : List ℕ) → Opens b h behind → IsNoHead b → ⊥
head_or_none b h behind opens (is_invalid front rest e short never) = never rest h behind (opens.head, sym e ∙ opens.spelled)
head_or_none b h behind opens (has_many_fields front rest e short exceeds overflows) =
    let many : 64 < length h.fields = overflows rest h behind (opens.head, sym e ∙ opens.spelled) in
    absurd (omega (arith, many, opens.few))
head_or_none b h behind opens (is_cut some short none) = none h behind (opens.head, opens.spelled)

-- ---- nothing

spaceless : (h : RequestHead) (text : List ℕ) → print_request h ≡ text → has_space text ≡ true
spaceless h text is = sym (ap has_space is) ∙ head_has_space h

pub head_or_nothing : (b : List ℕ) (h : RequestHead) (behind : List ℕ) → Opens b h behind → b ≡ [] → ⊥
head_or_nothing b h behind opens nothing =
    let size : 0 ≡ length (print_request h) + length behind = ap length (sym nothing ∙ opens.spelled) ∙ length-append (print_request h) behind in
    true≢false (sym (spaceless h [] (nil_from_length (print_request h) (omega (arith, size)))))

pub long_or_nothing : (b : List ℕ) → IsTooLong b → b ≡ [] → ⊥
long_or_nothing b long nothing =
    let size : 0 ≡ length long.0 + length long.1 = ap length (sym nothing ∙ long.2) ∙ length-append long.0 long.1 in
    absurd (omega (arith, size, long.3))

-- GET / HTTP/1.1
shortest : RequestHead
shortest = record { blank = []; method = 71 ∷ []; target = 47 ∷ []; minor = 1; line_end = lf; fields = []; last = lf }

shortest_is_head : IsRequestHead shortest
unfolding shortest is_token_byte
shortest_is_head = record {
  method = (lit< tt, All-cons (λ b. IsTrue (is_token_byte b)) 71 [] refl (All-nil (λ b. IsTrue (is_token_byte b))));
  target = (lit< tt, All-cons (λ b. IsTrue (is_uri_byte b)) 47 [] refl (All-nil (λ b. IsTrue (is_uri_byte b))));
  target_text = subst IsUtf8 (encode_ascii 47 (lit< tt)) (IsUtf8-encode 47 refl);
  minor = lit≤ tt;
  fields = All-nil IsField;
}

pub none_or_nothing : (b : List ℕ) → IsNoHead b → b ≡ [] → ⊥
none_or_nothing b (is_invalid front rest e short never) nothing =
    let size : 0 ≡ length front + length rest = ap length (sym nothing ∙ e) ∙ length-append front rest in
    let none : front ≡ [] = nil_from_length front (omega (arith, size)) in
    never (print_request shortest) shortest [] (shortest_is_head, ap (λ s. s ++ print_request shortest) none ∙ sym (append-nil (print_request shortest)))
none_or_nothing b (has_many_fields front rest e short exceeds overflows) nothing =
    let size : 0 ≡ length front + length rest = ap length (sym nothing ∙ e) ∙ length-append front rest in
    let parts : length front ≡ length exceeds.0 + length exceeds.1 = ap length exceeds.2 ∙ length-append exceeds.0 exceeds.1 in
    let none : exceeds.0 ≡ [] = nil_from_length exceeds.0 (omega (arith, size, parts)) in
    let line : print_request exceeds.3 ≡ 10 ∷ [] = sym (append-nil (print_request exceeds.3)) ∙ sym exceeds.4.1 ∙ ap (λ s. s ++ 10 ∷ []) none in
    true≢false (sym (spaceless exceeds.3 (10 ∷ []) line))
none_or_nothing b (is_cut some short none) nothing = some nothing

-- ---- the two places

-- the one text goes on with the other's bytes
goes_on : (front other : List ℕ) (rest others : List ℕ) → other ++ others ≡ front ++ rest → length other ≤ length front → front ≡ other ++ drop (length other) front
goes_on front other rest others e fits = begins_shorter front rest other others (sym e) fits

pub long_and_none : (b : List ℕ) → IsTooLong b → IsNoHead b → HasTwoAnswers b
long_and_none b long (is_invalid front rest e short never) =
    let whole = long.0 in
    let more = drop (length front) whole in
    let is : whole ≡ front ++ more = goes_on whole front long.1 rest (sym e ∙ long.2) (omega (arith, short, long.3)) in
    let none : NeverHasRequest whole = λ behind h left reads. never (more ++ behind) h left (reads.0, sym (append_assoc front more behind) ∙ sym (ap (λ s. s ++ behind) is) ∙ reads.1) in
    elim long.5 [
      | inl becomes ↦ absurd (none becomes.0 becomes.1 [] becomes.2)
      | inr ends ↦ ends_in_target whole long.1 long.2 long.3 ends none
    ]
long_and_none b long (has_many_fields front rest e short exceeds overflows) =
    let whole = long.0 in
    let more = drop (length front) whole in
    let is : whole ≡ front ++ more = goes_on whole front long.1 rest (sym e ∙ long.2) (omega (arith, short, long.3)) in
    begins_many_fields whole long.1 long.2 long.3 long.4 (exceeds.0, exceeds.1 ++ more, is ∙ ap (λ s. s ++ more) exceeds.2 ∙ append_assoc exceeds.0 exceeds.1 more, exceeds.3, exceeds.4, exceeds.5)
long_and_none b long (is_cut some short none) =
    let size : length b ≡ length long.0 + length long.1 = ap length long.2 ∙ length-append long.0 long.1 in
    absurd (omega (arith, size, short, long.3))
