-- What of the lines of a text was sent.
use Rattle.std.proofs.Common.{◌≡◌, ◌≢◌, ℕ, ◌<◌, List, [], ◌∷◌, ◌++◌, codes, length, Bool, cond, refl, ap, sym, subst, ◌∙◌, append_assoc, append-nil, ne_eqb, arith, inl, inr}
use Rattle.std.specs.Prelude.{Option, None, Some, IfSome, ◌==◌, true, false}
use Rattle.std.specs.Io.KnownBytes.{Appends, IsAtEnd}
use Rattle.std.proofs.KnownBytes.{Appends-nil, Appends-trans}
use Rattle.std.proofs.lemmas.List.Elements.{All-head, All-tail}
use Rattle.client_lines.specs.Sending.{AppendsUpTo, HasLongLine, IsAtKnownEnd, SendsAll, SendsFront, SendsOn, as_lines}
use Rattle.client_lines.specs.ProofTaking.{HasNoFeed, MayBeLine, TakesLine, TakesTooMany}
use Rattle.client_lines.proofs.Fronts.{AppendsUpTo-behind, AppendsUpTo-longer}

pub as_lines-line : (line rest : List ℕ) → as_lines (line ++ 10 ∷ rest) ≡ line ++ 10 ∷ as_lines rest
as_lines-line [] [] = refl
as_lines-line [] (next ∷ rest) = refl
as_lines-line (byte ∷ []) rest = ap (λ l. byte ∷ l) (as_lines-line [] rest)
as_lines-line (byte ∷ next ∷ line) rest = ap (λ l. byte ∷ l) (as_lines-line (next ∷ line) rest)

pub as_lines-last : (line : List ℕ) → 0 < length line → HasNoFeed line
    → as_lines line ≡ line ++ 10 ∷ []
as_lines-last [] some none = absurd (omega arith)
as_lines-last (byte ∷ []) some none =
    ap (λ b. cond b (byte ∷ []) (byte ∷ 10 ∷ [])) (ne_eqb byte 10 (All-head (λ x. x ≢ 10) byte [] none))
as_lines-last (byte ∷ next ∷ line) some none =
    ap (λ l. byte ∷ l) (as_lines-last (next ∷ line) (omega arith) (All-tail (λ x. x ≢ 10) byte (next ∷ line) none))

-- a line that was taken is what comes first of the text as lines
pub line_first : (text : List ℕ) (after : Option (List ℕ)) (line : List ℕ)
    → TakesLine (Some text) after line → MayBeLine line
    → (rest : List ℕ) × (after ≡ Some rest) × (as_lines text ≡ (line ++ 10 ∷ []) ++ as_lines rest)
line_first text None line (inl taken) short = absurd taken
line_first text None line (inr (some, taken)) short = absurd taken.0
line_first text (Some rest) line (inl taken) short = (
  rest,
  refl,
  ap as_lines (taken ∙ append_assoc line (10 ∷ []) rest) ∙ as_lines-line line rest
      ∙ sym (append_assoc line (10 ∷ []) (as_lines rest)),
)
line_first text (Some rest) line (inr (some, taken)) short = (
  rest,
  refl,
  ap as_lines (taken.0 ∙ ap (λ l. line ++ l) taken.1 ∙ append-nil line)
      ∙ as_lines-last line some short.1 ∙ sym (append-nil (line ++ 10 ∷ []))
      ∙ ap (λ l. (line ++ 10 ∷ []) ++ as_lines l) (sym taken.1),
)

pub SendsOn-line : (input_before input_after before after : Option (List ℕ)) (line : List ℕ)
    → TakesLine input_before input_after line → MayBeLine line → Appends before after (line ++ codes "\n")
    → SendsOn input_before input_after before after
SendsOn-line None input_after before after line taken short sent = tt
SendsOn-line (Some text) input_after before after line taken short sent =
    let first = line_first text input_after line taken short in
    (first.0, first.1, line ++ codes "\n", first.2, sent)

pub SendsFront-line : (input_before input_after before after : Option (List ℕ)) (line : List ℕ)
    → TakesLine input_before input_after line → MayBeLine line
    → AppendsUpTo before after (line ++ codes "\n") → SendsFront input_before before after
SendsFront-line None input_after before after line taken short sent = tt
SendsFront-line (Some text) input_after before after line taken short sent =
    let first = line_first text input_after line taken short in
    subst (AppendsUpTo before after) (sym first.2)
    (AppendsUpTo-longer before after (line ++ codes "\n") (as_lines first.0) sent)

pub SendsOn-trans : (a b c before between after : Option (List ℕ))
    → SendsOn a b before between → SendsOn b c between after → SendsOn a c before after
SendsOn-trans None b c before between after first second = tt
SendsOn-trans (Some text) b c before between after first second =
    let next = subst (λ o. SendsOn o c between after) first.1 second in (
      next.0,
      next.1,
      first.2 ++ next.2,
      first.3 ∙ ap (λ l. first.2 ++ l) next.3 ∙ sym (append_assoc first.2 next.2 (as_lines next.0)),
      Appends-trans before between after first.2 next.2 first.4 next.4,
    )

pub SendsFront-behind : (a b before between after : Option (List ℕ))
    → SendsOn a b before between → SendsFront b between after → SendsFront a before after
SendsFront-behind None b before between after first second = tt
SendsFront-behind (Some text) b before between after first second =
    let next = subst (λ o. SendsFront o between after) first.1 second in
    subst (AppendsUpTo before after) (sym first.3)
    (AppendsUpTo-behind before between after first.2 (as_lines first.0) first.4 next)

-- nothing is left
pub SendsAll-end : (a b before after : Option (List ℕ)) → SendsOn a b before after
    → IsAtKnownEnd a b → SendsAll a before after
SendsAll-end None b before after sent end = tt
SendsAll-end (Some text) b before after sent end =
    let none = subst IsAtEnd sent.1 end in
    subst (Appends before after)
    (sym (sent.3 ∙ ap (λ l. sent.2 ++ as_lines l) none ∙ append-nil sent.2)) sent.4

pub IsAtKnownEnd-behind : (a b c before between : Option (List ℕ)) → SendsOn a b before between
    → IsAtKnownEnd b c → IsAtKnownEnd a c
IsAtKnownEnd-behind None b c before between first end = tt
IsAtKnownEnd-behind (Some text) b c before between first end =
    subst (λ o. IsAtKnownEnd o c) first.1 end

pub SendsOn-none : (a before : Option (List ℕ)) → SendsOn a a before before
SendsOn-none None before = tt
SendsOn-none (Some text) before = (text, refl, [], refl, Appends-nil before)

last-byte : (is_feed : Bool) (byte : ℕ)
    → cond is_feed (byte ∷ []) (byte ∷ 10 ∷ []) ≡ byte ∷ cond is_feed [] (10 ∷ [])
last-byte true byte = refl
last-byte false byte = refl

-- the first bytes of a text are those of the text as lines
as_lines-front : (front rest : List ℕ)
    → (tail : List ℕ) × (as_lines (front ++ rest) ≡ front ++ tail)
as_lines-front [] rest = (as_lines rest, refl)
as_lines-front (byte ∷ []) [] = (cond (byte == 10) [] (10 ∷ []), last-byte (byte == 10) byte)
as_lines-front (byte ∷ []) (next ∷ rest) = (as_lines (next ∷ rest), refl)
as_lines-front (byte ∷ next ∷ front) rest =
    let more = as_lines-front (next ∷ front) rest in
    (more.0, ap (λ l. byte ∷ l) more.1)

long-line : (text sent rest : List ℕ) (after : Option (List ℕ))
    → as_lines text ≡ sent ++ as_lines rest → TakesTooMany (Some rest) after → HasLongLine text
long-line text sent rest None is taken = absurd taken.3
long-line text sent rest (Some left) is taken =
    let whole = as_lines-front taken.0 left in record {
      front = sent;
      line = taken.0;
      rest = whole.0;
      has = is ∙ ap (λ l. sent ++ as_lines l) taken.3 ∙ ap (λ l. sent ++ l) whole.1
          ∙ sym (append_assoc sent taken.0 whole.0);
      is_line = taken.2;
      is_long = taken.1;
    }

-- a line that is too long, after what was sent
pub HasLongLine-after : (a b c before after : Option (List ℕ))
    → SendsOn a b before after → TakesTooMany b c → IfSome a HasLongLine
HasLongLine-after None b c before after sent long = tt
HasLongLine-after (Some text) b c before after sent long =
    let taken = subst (λ o. TakesTooMany o c) sent.1 long in
    long-line text sent.2 sent.0 c sent.3 taken
