-- The test that tells whether a text ends in a line feed.
use Rattle.std.proofs.Common.{◌≡◌, ◌≢◌, ℕ, ◌+◌, ◌-◌, true, false, List, [], ◌∷◌, ◌++◌, length, drop, nat_eq, refl, sym, ap, ◌∙◌, arith, length-append}
use Rattle.std.proofs.Math.Seq.{drop-append_seam}
use Rattle.std.proofs.lemmas.Bool.{ne_eqb}
use Rattle.std.specs.Cmp.Lexicographic.{pointwise}
use Rattle.listen_http.specs.ProofKinds.{ends_line}

-- it looks at the last byte alone
ends_line_at : (front : List ℕ) (byte : ℕ) → ends_line (front ++ byte ∷ []) ≡ pointwise nat_eq (10 ∷ []) (byte ∷ [])
ends_line_at front byte =
    let both : length (front ++ byte ∷ []) ≡ length front + 1 = length-append front (byte ∷ []) in
    let before : length (front ++ byte ∷ []) - 1 ≡ length front = omega arith in
    ap (λ n. pointwise nat_eq (10 ∷ []) (drop n (front ++ byte ∷ []))) before ∙ ap (pointwise nat_eq (10 ∷ [])) (drop-append_seam front (byte ∷ []))

pub line_feed_ends : (front : List ℕ) → ends_line (front ++ 10 ∷ []) ≡ true
line_feed_ends front = ends_line_at front 10

pub line_feed_ends_it : (text front : List ℕ) → text ≡ front ++ 10 ∷ [] → ends_line text ≡ true
line_feed_ends_it text front is = ap ends_line is ∙ line_feed_ends front

pub other_byte_ends_none : (front : List ℕ) (byte : ℕ) → byte ≢ 10 → ends_line (front ++ byte ∷ []) ≡ false
other_byte_ends_none front byte other = ends_line_at front byte ∙ (let apart : nat_eq 10 byte ≡ false = ne_eqb 10 byte (λ same. other (sym same)) in rw apart refl)
