-- Fields that are taken, one after another.
use Rattle.std.proofs.Common.{◌≡◌, ◌≢◌, ◌∙◌, ◌==◌, ℕ, ◌+◌, ◌-◌, ◌<◌, ◌≤◌, Bool, true, false, All, List, [], ◌∷◌, ◌++◌, length, take, drop, nat_lt, if◌then◌else◌, Option, Some, None, refl, sym, ap, subst, arith, append-nil}
use Rattle.std.specs.Prelude.{unwrap_or}
use Rattle.std.proofs.lemmas.Bool.Decides.{nat_tests}
use Rattle.std.proofs.lemmas.Grind.{common_steps}
use Rattle.std.proofs.lemmas.List.{take_all}
use Rattle.std.proofs.lemmas.List.Elements.{All-cons, All-nil}
use Rattle.std.proofs.lemmas.List.Sums.{fails_before_first, split_at_first, passes_at_first}
use Rattle.std.specs.List.{join_with_byte, position, position_or_len, before_first, after_first}
use Rattle.input_fields.specs.Fields.{SaysNumber}
use Rattle.input_lines.specs.Saying.{AreFields, HasNoSpace, Says, SaysLine}
use Rattle.input_lines.specs.ProofTaking.{TakesField, TakesFields, space_before}
use Rattle.input_lines.specs.declared.action.Action.{Action}
use Rattle.input_lines.specs.declared.line.Line.{Line}
use Rattle.input_lines.specs.declared.lines.Grammar.{Grammar}
use Rattle.input_lines.specs.declared.lines.Grammar.TheVariants.{Operator, Script, Station}

abbrev is_space : ℕ → Bool
is_space b = b == 32

space : (b : ℕ) → is_space b ≡ true → b ≡ 32
space b e = grind (arith, nat_tests)

no_space : (b : ℕ) → is_space b ≡ false → b ≢ 32
no_space b e = λ same. grind (arith, nat_tests)

-- what stands before the first space has none
front_has_none : (text : List ℕ) (n : ℕ) → n ≤ position_or_len is_space text → HasNoSpace (take n text)
front_has_none text n below = λ k d in'. grind (arith, common_steps, no_space, fails_before_first)

place_found : (text : List ℕ) (end : ℕ) → position is_space text ≡ Some end → (end ≡ position_or_len is_space text) × (position_or_len is_space text < length text)
place_found text end found = at (nat_lt (position_or_len is_space text) (length text)) refl found
  where
    at : (b : Bool) → nat_lt (position_or_len is_space text) (length text) ≡ b → (if b then Some (position_or_len is_space text) else None) ≡ Some end
        → (end ≡ position_or_len is_space text) × (position_or_len is_space text < length text)
    at true is e = (cc, grind (arith, nat_tests))
    at false is e = absurd (cc)

none_found : (text : List ℕ) → position is_space text ≡ None → length text ≤ position_or_len is_space text
none_found text none = past (nat_lt (position_or_len is_space text) (length text)) refl none
  where
    past : (b : Bool) → nat_lt (position_or_len is_space text) (length text) ≡ b → (if b then Some (position_or_len is_space text) else None) ≡ None → length text ≤ position_or_len is_space text
    past true is e = cc
    past false is e = grind (arith, nat_tests)

cut : (text : List ℕ) (n : ℕ) → n ≡ position_or_len is_space text → n < length text → text ≡ take n text ++ 32 ∷ drop (n + 1) text
cut text n is in' =
    let there : position_or_len is_space text < length text = omega (arith, is, in') in
    rw is (split_at_first is_space text 0 there ∙ ap (λ b. before_first is_space text ++ b ∷ after_first is_space text) (space _ (passes_at_first is_space text 0 there)))

pub take_up_to : (old : Option (List ℕ)) (text : List ℕ) (end : ℕ) → old ≡ Some text → position is_space text ≡ Some end
    → TakesField old (Some (take (length text - (end + 1)) (drop (end + 1) text))) (take end text)
take_up_to old text end was found = record {
  first = let at = place_found text end found in
      was ∙ ap Some (cut text end at.0 (omega (arith, at.0, at.1)) ∙ ap (λ l. take end text ++ 32 ∷ l) (sym (take_all (length text - (end + 1)) (drop (end + 1) text) (grind (arith, common_steps)))));
  no_space = let at = place_found text end found in front_has_none text end (omega (arith, at.0));
}

pub take_last : (old : Option (List ℕ)) (text : List ℕ) → old ≡ Some text → position is_space text ≡ None → TakesField old None text
take_last old text was none = record {
  first = was ∙ ap Some (sym (append-nil text));
  no_space = λ k d in'. let far = none_found text none in no_space _ (fails_before_first is_space text k d (omega (arith, far, in')));
}

-- ---- all fields of a line

all_no_space : (fields : List (List ℕ)) (old new : Option (List ℕ)) → TakesFields old new fields → All HasNoSpace fields
all_no_space [] old new taken = All-nil HasNoSpace
all_no_space (field ∷ fields) old new taken = All-cons HasNoSpace field fields taken.1.no_space (all_no_space fields taken.0 new taken.2)

joined : (field : List ℕ) (fields : List (List ℕ)) (text : List ℕ) → TakesFields (Some text) None (field ∷ fields) → text ≡ join_with_byte 32 (field ∷ fields)
joined field [] text (between, taken, ended) =
    ap (λ old. unwrap_or old []) taken.first ∙ ap (λ rest. field ++ space_before rest) ended ∙ append-nil field
joined field (next ∷ fields) text (between, taken, more) =
    let rest = next ++ space_before more.0 in
    let others = joined next fields rest (subst (λ old. TakesFields old None (next ∷ fields)) more.1.first more) in
    ap (λ old. unwrap_or old []) taken.first ∙ ap (λ b. field ++ space_before b) more.1.first ∙ ap (λ l. field ++ 32 ∷ l) others

-- fields that were taken, after which nothing is left, are those of the text
pub AreFields-taken : (text : List ℕ) (between new : Option (List ℕ)) (field : List ℕ) (fields : List (List ℕ)) → TakesField (Some text) between field
    → TakesFields between new fields → new ≡ None → AreFields text (field ∷ fields)
AreFields-taken text between new field fields first more end = record {
  parted = joined field fields text (subst (λ o. TakesFields (Some text) o (field ∷ fields)) end (between, first, more));
  no_space = all_no_space (field ∷ fields) (Some text) new (between, first, more);
}

-- ---- what a line says

pub SaysLine-Script : (grammar : Grammar) (line : Line) (field : List ℕ) (rest : List (List ℕ)) (moment : ℕ) (action : Action) → grammar ≡ Script → line.moment ≡ moment → line.action ≡ action
    → SaysNumber field moment → Says rest action → SaysLine grammar (field ∷ rest) line
SaysLine-Script grammar line field rest moment action script at is number says =
    subst (λ g. SaysLine g (field ∷ rest) line) (sym script)
    (field, rest, refl, subst (SaysNumber field) (sym at) number, subst (Says rest) (sym is) says)

pub SaysLine-Station : (grammar : Grammar) (line : Line) (fields : List (List ℕ)) (moment : ℕ) (action : Action) → grammar ≡ Station moment → line.action ≡ action
    → Says fields action → SaysLine grammar fields line
SaysLine-Station grammar line fields moment action station is says =
    subst (λ g. SaysLine g fields line) (sym station) (subst (Says fields) (sym is) says)

pub SaysLine-Operator : (grammar : Grammar) (line : Line) (fields : List (List ℕ)) (moment : ℕ) (action : Action) → grammar ≡ Operator moment → line.action ≡ action
    → Says fields action → SaysLine grammar fields line
SaysLine-Operator grammar line fields moment action operator is says =
    subst (λ g. SaysLine g fields line) (sym operator) (subst (Says fields) (sym is) says)
